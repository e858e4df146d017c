use mathlib.Core.HLevel.{Σ_prop_path}
use Rattle.std.proofs.Common.{◌≡◌, refl}
use Rattle.std.proofs.Props.{props}
use Rattle.sg_table.specs.Draft.{Drafted, empty_draft}
use Rattle.sg_extent_map.specs.Parts.{IsMadeOfParts}
use Rattle.sg_extent_map.proofs.laws.an_extent_map_is_made_of_its_parts.Goals as goal

-- the lists are empty, and this holds in only one way
made-of : IsMadeOfParts
made-of map =
    let none = empty_draft map.table.room in
    let lists : ◌≡◌ {A = (d : Drafted × Drafted) × ((d.0 ≡ none) × (d.1 ≡ none))}
    ((map.gathered, map.draft), (map.gathered_empty, map.draft_empty))
    ((none, none), (refl, refl))
    = Σ_prop_path (λ d. hlevel props) (λ i. (map.gathered_empty i, map.draft_empty i)) in
    λ i. record {
      capacity = map.capacity;
      table = map.table;
      pool = map.pool;
      gathered = (lists i).0.0;
      draft = (lists i).0.1;
      capacity_fits = map.capacity_fits;
      pool_fits = map.pool_fits;
      gathered_empty = (lists i).1.0;
      draft_empty = (lists i).1.1;
      well_formed = map.well_formed;
      extents = map.extents;
    }

pub returns : goal.returns
returns c = made-of
