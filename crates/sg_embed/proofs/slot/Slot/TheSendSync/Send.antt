-- A disk may go to another thread: a slot owns its box, and no other value has a part of the box.
use Rattle.std.proofs.Crossing.{frees}
use mir.Raw.{raw}
use base.Shift.{Keyless}
use base.Fraction.{full_share}
use denote.Exit.{Exit, unchanged, leaves, hidden, under}
use denote.Memory.{lone}
use denote.RattleType.{RattleType}
use denote.RawPtr.{Ptr, block_ptr, null_ptr, lies_at}
use denote.Param.Send.{IsSend, AllSend, Quiet, owning_send, part_keyless, struct_send, sendable}
use denote.Struct.Owning.{shape, fields, to}
use denote.Struct.Struct.{exits_of}
use Rattle.std.specs.declared.alloc.Global.{Global}
use Rattle.std.specs.declared.option.Option.{Option}
use Rattle.std.specs.declared.option.Option.TheVariants.{None, Some}
use Rattle.sg_embed.specs.Holds.{holds}
use Rattle.sg_embed.specs.contracts.kept.Kept as Kept
use Rattle.sg_embed.proofs.kept.Kept.TheSendSync.{the_send}
use Rattle.sg_embed.specs.contracts.slot.Slot as Slot

lies : (R : RattleType) → IsSend R → (at : Ptr) (x : R.Denot) → Keyless (lies_at R full_share at x)
lies R s (block_ptr b o) x = part_keyless R s full_share x b o
lies R s null_ptr x = tt

quiet : {D X : Type 0} (to : D → X) (e : Exit X) → Quiet e → Quiet (hidden (under to e))
quiet to unchanged q = λ x w. tt
quiet to (leaves L l S s r₀) q = λ d. q (to d)

held-keyless : (alloc : Global) (at : Ptr) (held : Option (Kept.the_row).Denot)
    → Keyless (holds Kept.the_row alloc at held)
held-keyless alloc at None = tt
held-keyless alloc at (Some kept) =
    (lies Kept.the_row the_send at kept, frees.frees alloc (raw (lone (Kept.the_row).mir)) at)

pub send : IsSend Slot.the_row
send =
    let O = Slot.the_type in
    let all : AllSend (fields O) = (search sendable, (search sendable, tt)) in
    owning_send O all (λ slot. held-keyless slot.alloc slot.at slot.held)
    (λ k. quiet (to O) (exits_of k (fields O)) ((struct_send (shape O) all).leaving k))
