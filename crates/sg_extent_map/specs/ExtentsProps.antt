-- Extents are apart and maximal in at most one way.
use Rattle.std.specs.Prelude.{ℕ, List, [], ◌∷◌}
use Rattle.std.proofs.Props.{props}
use Rattle.sg_extent_map.specs.Extents.{AreExtents, AreMaximal, IsNotContinued}
use Rattle.sg_pool.specs.Rising.{end_of, AreApart}
use Rattle.sg_pool.specs.Slots.{UnlinkedSlots}
use Rattle.sg_table.specs.declared.run.Run.{Run}

pub AreApart-IsProp : (low high : ℕ) (runs : List Run) → IsProp (AreApart low high runs)
AreApart-IsProp low high [] = hlevel props
AreApart-IsProp low high (run ∷ runs) = hlevel (props, AreApart-IsProp (end_of run) high runs)

pub IsNotContinued-IsProp : (run : Run) (runs : List Run) → IsProp (IsNotContinued run runs)
IsNotContinued-IsProp run [] = hlevel props
IsNotContinued-IsProp run (next ∷ runs) = hlevel props

pub AreMaximal-IsProp : (runs : List Run) → IsProp (AreMaximal runs)
AreMaximal-IsProp [] = hlevel props
AreMaximal-IsProp (run ∷ runs) =
    hlevel (props, IsNotContinued-IsProp run runs, AreMaximal-IsProp runs)

pub AreExtents-IsProp : (records : List Run) (slots : UnlinkedSlots) (room : ℕ)
    → IsProp (AreExtents records slots room)
AreExtents-IsProp records slots room = hlevel (props, AreApart-IsProp, AreMaximal-IsProp)
