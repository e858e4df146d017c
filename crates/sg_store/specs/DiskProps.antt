-- Contents are well formed in at most one way.
use Rattle.std.specs.Prelude.{ℕ}
use Rattle.std.proofs.Props.{props}
use Rattle.sg_store.specs.Disk.{Contents, IsWellFormed, HasBlockLength, Mapping}
use Rattle.sg_store.specs.Disk.Mapping.{Data, Anchored}

pub HasBlockLength-IsProp : (mapping : Mapping) → IsProp (HasBlockLength mapping)
HasBlockLength-IsProp (Data block) = hlevel props
HasBlockLength-IsProp Anchored = hlevel props

pub IsWellFormed-IsProp : (capacity : ℕ) (contents : Contents)
    → IsProp (IsWellFormed capacity contents)
IsWellFormed-IsProp capacity contents = hlevel (props, HasBlockLength-IsProp)
