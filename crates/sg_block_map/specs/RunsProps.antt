-- Runs are maximal and chained in at most one way.
use Rattle.std.specs.Prelude.{ℕ, List, [], ◌∷◌}
use Rattle.std.proofs.Props.{props}
use Rattle.sg_block_map.specs.Runs.{Bound, behind, AreMaximalIn, AreChained, AreRuns}
use Rattle.sg_pool.specs.Slots.{Slots}
use Rattle.sg_table.specs.declared.run.Run.{Run}

pub AreMaximalIn-IsProp : (low high : Bound) (runs : List Run) → IsProp (AreMaximalIn low high runs)
AreMaximalIn-IsProp low high [] = hlevel props
AreMaximalIn-IsProp low high (run ∷ runs) = hlevel
    (props, AreMaximalIn-IsProp (behind run) high runs)

pub AreChained-IsProp : (next : List ℕ) (runs : List Run) → IsProp (AreChained next runs)
AreChained-IsProp next [] = hlevel props
AreChained-IsProp next (run ∷ runs) = hlevel (props, AreChained-IsProp next runs)

pub AreRuns-IsProp : (records : List Run) (slots : Slots) (room : ℕ)
    → IsProp (AreRuns records slots room)
AreRuns-IsProp records slots room = hlevel (props, AreMaximalIn-IsProp, AreChained-IsProp)
