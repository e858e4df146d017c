-- The slot after a `&mut` to its disk has ended.
use Rattle.std.specs.Prelude.{Option, Some}
use Rattle.std.specs.Borrow.{Fml, MutBor, LendsIf}
use Rattle.sg_embed.specs.contracts.kept.Kept as kept
use Rattle.sg_embed.specs.contracts.slot.Slot as slot
use Rattle.sg_embed.specs.declared.kept.Kept.{Kept}
use Rattle.sg_embed.specs.declared.slot.Slot.{Slot}

-- The same slot with another disk.
abbrev pub with_kept : Slot → Kept → Slot
with_kept s disk = record { at = s.at; alloc = s.alloc; held = Some disk }

-- The slot has the disk that the `&mut` left. Without a `&mut` the slot is as it was.
abbrev pub lends_kept : MutBor Slot → Option (MutBor Kept) → Fml
lends_kept s disk = LendsIf slot.the_row kept.the_row s disk (with_kept s.now) s.now
