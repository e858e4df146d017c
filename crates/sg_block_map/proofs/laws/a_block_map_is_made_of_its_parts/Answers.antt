use mathlib.Core.HLevel.{Σ_prop_path}
use Rattle.std.proofs.Common.{◌≡◌, refl}
use Rattle.std.proofs.Props.{props}
use Rattle.sg_table.specs.Draft.{Drafted, empty_draft}
use Rattle.sg_block_map.specs.Parts.{IsMadeOfParts}
use Rattle.sg_block_map.proofs.laws.a_block_map_is_made_of_its_parts.Goals as goal

-- the list is empty, and this holds in only one way
made-of : IsMadeOfParts
made-of map =
    let none = empty_draft map.table.room in
    let list : ◌≡◌ {A = (d : Drafted) × (d ≡ none)} (map.gathered, map.gathered_empty) (none, refl)
    = Σ_prop_path (λ d. hlevel props) map.gathered_empty in
    λ i. record {
      capacity = map.capacity;
      table = map.table;
      pool = map.pool;
      gathered = (list i).0;
      capacity_fits = map.capacity_fits;
      pool_fits = map.pool_fits;
      gathered_empty = (list i).1;
      well_formed = map.well_formed;
      runs = map.runs;
    }

pub returns : goal.returns
returns c = made-of
