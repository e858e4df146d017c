-- A range that is written inside one run.
use Rattle.std.specs.Prelude.{◌≡◌, ℕ, ◌+◌, ◌<◌, ◌≤◌, length}
use Rattle.sg_pool.specs.Slots.{Slots}
use Rattle.sg_table.specs.declared.run.Kind.TheVariants.{Data}
use Rattle.sg_table.specs.declared.run.Run.{Run}
use Rattle.sg_pool.specs.Rising.{end_of}

-- A range that is not empty, with all its addresses in one run of data.
pub record LiesInRun (run : Run) (lba count : ℕ) : Type 0 where
  pub is_data : run.kind ≡ Data
  pub not_empty : 0 < count
  pub after_start : run.start ≤ lba
  pub before_end : lba + count ≤ end_of run

-- The step takes and frees no slot, and changes no link. It changes only blocks, and it follows
-- links.
pub record ChangesBlocks (before after : Slots) : Type 0 where
  pub pool : after ≡ record before { blocks = after.blocks; links = after.links }
  pub slots : length after.blocks ≡ length before.blocks
