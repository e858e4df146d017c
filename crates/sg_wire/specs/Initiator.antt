-- The initiators that a disk serves.
use Rattle.std.specs.Prelude.{ℕ}

-- The most initiators that a disk of any profile serves. They are numbered from 0 on.
abbrev pub initiator_count : ℕ
initiator_count = 64
