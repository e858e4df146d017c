-- The blocks that a command overwrites, as the code keeps them.
use Rattle.std.specs.Prelude.{List, [], ◌∷◌}
use Rattle.sg_wire.specs.declared.extent.Extent.{Extent}
use Rattle.sg_target.specs.Demands.{extent}
use Rattle.sg_target.specs.declared.armed.OverwrittenBlocks.{OverwrittenBlocks}
use Rattle.sg_target.specs.declared.armed.OverwrittenBlocks.TheVariants.{Extents, Disk}

abbrev pub extents_in : OverwrittenBlocks → List Extent
extents_in (Extents extents) = extents
extents_in (Disk blocks) = extent 0 blocks ∷ []
