-- Changes as a program has them, with borrowed blocks and state.
use Rattle.std.specs.Prelude.{◌≡◌, ◌+◌, ◌*◌, ℕ, length}
use Rattle.sg_store.specs.Disk.{block_length}
use Rattle.sg_changes.specs.Change.{Change, persistent_of}
use Rattle.sg_changes.specs.Change.Change.{Write, Fill, Unmap, Anchor, Grow}
use Rattle.sg_changes.specs.Change.Change.{Pages, Reservations, Faults}
use Rattle.sg_changes.specs.declared.change.Change.{Change as Borrowed}
use Rattle.sg_changes.specs.declared.change.Change.TheVariants as borrowed

-- The change that a borrowed one is.
abbrev pub change_of : Borrowed → Change
change_of (borrowed.Write extent blocks) = Write extent blocks.now
change_of (borrowed.Fill extent block) = Fill extent block.now
change_of (borrowed.Unmap lba count) = Unmap lba count
change_of (borrowed.Anchor extent) = Anchor extent
change_of (borrowed.Pages saved) = Pages saved.now
change_of (borrowed.Reservations state) = Reservations (persistent_of state.now)
change_of (borrowed.Faults faults) = Faults faults.now
change_of (borrowed.Grow capacity) = Grow capacity

-- The blocks of a change are whole.
abbrev pub HasWholeBlocks : Change → Type 0
HasWholeBlocks (Write extent blocks) = length blocks ≡ block_length * extent.count
HasWholeBlocks _ = Unit {0}

-- The room that a record needs at most, in bytes.
abbrev pub room_for : Change → ℕ
room_for (Write extent blocks) = 13 + length blocks
room_for (Fill extent block) = 525
room_for (Unmap lba count) = 17
room_for (Anchor extent) = 13
room_for (Pages saved) = 77
room_for (Reservations persistent) = 583
room_for (Faults slots) = 3289
room_for (Grow capacity) = 9
