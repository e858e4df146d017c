-- Records of changes that are added to a batch.
use Rattle.std.specs.Prelude.{◌≡◌, ◌≤◌, ◌+◌, ℕ, List, ◌++◌, length, true}
use Rattle.std.specs.List.{flat_map, list_all}
use Rattle.sg_changes.specs.Change.{Change}
use Rattle.sg_changes.specs.Records.{is_possible, record_of}
use Rattle.sg_journal.specs.BatchValue.{BatchValue}
use Rattle.sg_journal.specs.declared.layout.TheConstants.{MAX_BATCH}
use Rattle.sg_target.specs.declared.operation.Operation.{Operation}
use Rattle.sg_target.specs.declared.operation.Operation.TheVariants.{Copy, OrWrite}

-- A batch has the records of these changes, too.
pub record Adds (old new : BatchValue) (changes : List Change) : Type 0 where
  pub added : new ≡ record old { records = old.records ++ flat_map record_of changes }
  pub possible : list_all is_possible changes ≡ true

-- The longest record of an operation has the 2,048 blocks that a command writes at most.
abbrev pub longest_operation : ℕ
longest_operation = 1048589

-- The room that a command needs at most: its operation's, and that of a table of faults.
abbrev pub longest_changes : ℕ
longest_changes = 1051878

-- A batch has room for the changes of one command.
abbrev pub HasRoom : BatchValue → Type 0
HasRoom batch = length batch.records + longest_changes ≤ MAX_BATCH

-- The most bytes of blocks that a command writes.
abbrev pub longest_write : ℕ
longest_write = 1048576

-- The blocks that an ORWRITE or an EXTENDED COPY writes are on the disk, so that they can be read back.
abbrev pub IsReadable : (capacity : ℕ) → Operation → Type 0
IsReadable capacity (OrWrite out) = out.extent.lba + out.extent.count ≤ capacity
IsReadable capacity (Copy segment) = segment.destination + segment.blocks ≤ capacity
IsReadable capacity _ = Unit {0}
