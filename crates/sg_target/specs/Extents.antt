-- All blocks of extents lie below the capacity.
use Rattle.std.specs.Prelude.{ℕ, ◌+◌, ◌≤◌, List, [], ◌∷◌}
use Rattle.sg_wire.specs.declared.extent.Extent.{Extent}

abbrev pub AreOnDisk : (capacity : ℕ) → List Extent → Type 0
AreOnDisk capacity [] = Unit {0}
AreOnDisk capacity (extent ∷ rest) = (extent.lba + extent.count ≤ capacity) × AreOnDisk capacity rest
