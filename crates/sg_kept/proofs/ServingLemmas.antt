-- The data-in of a disk in a file fits its buffer, whether the device has failed or not.
use Rattle.std.proofs.Common.{◌≡◌, ◌≤◌, ℕ, List, length, drop, Bool, true, false, refl, ap, arith}
use Rattle.std.proofs.Common.{length-append}
use Rattle.sg_target.specs.Armed.{ArmedStep, whole_answer}
use Rattle.sg_target.specs.Reply.{CarriesStep}
use Rattle.sg_target.specs.declared.reply.Reply.{Reply}

pub reply-fits : (dead : Bool) (done : ArmedStep) (failed reply : Reply) (before after : List ℕ)
    → (dead ≡ false → CarriesStep done reply before after) → (dead ≡ true → reply ≡ failed)
    → failed.data_in ≡ 0 → reply.data_in ≤ length after
reply-fits true done failed reply before after carried fails none =
    omega (arith, ap (λ (r : Reply). r.data_in) (fails refl), none)
reply-fits false done failed reply before after carried fails none =
    let carries = carried refl in
    let written = (whole_answer done).data_in in
    omega (
      arith,
      carries.size,
      ap length carries.data_in,
      length-append written (drop (length written) before),
      length-append done.answer.data_in done.unsent,
    )
