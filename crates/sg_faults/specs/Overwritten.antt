-- The blocks that a command overwrites, as extents.
use Rattle.std.specs.Prelude.{List, [], ◌∷◌}
use Rattle.sg_wire.specs.declared.extent.Extent.{Extent}
use Rattle.sg_faults.specs.declared.seen.Overwritten.{Overwritten}
use Rattle.sg_faults.specs.declared.seen.Overwritten.TheVariants.{Extents, Disk}

-- All blocks of a disk are one extent, from address 0 on.
abbrev pub extents_of : Overwritten → List Extent
extents_of (Extents extents) = extents.now
extents_of (Disk blocks) = record { lba = 0; count = blocks } ∷ []
