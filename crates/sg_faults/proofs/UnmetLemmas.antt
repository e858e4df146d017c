-- Faults that a command does not meet.
use Rattle.std.proofs.Common.{◌≡◌, true, ◌&&◌, Option, Some, None, refl, ap, ◌∙◌}
use Rattle.std.proofs.lemmas.Bool.{and_right, not-true}
use Rattle.std.specs.Prelude.{if◌then◌else◌, is_some}
use Rattle.sg_faults.specs.Arming.{count_for, counted, is_due}
use Rattle.sg_faults.specs.Faults.{met, struck_in}
use Rattle.sg_faults.specs.Laws.{Quiets, is_unmet, meets_none}
use Rattle.sg_faults.specs.Meeting.{Seen, meets}
use Rattle.sg_faults.specs.Places.{At}
use Rattle.sg_faults.specs.declared.fault.ArmedFault.{ArmedFault}
use Rattle.sg_faults.proofs.QuietLemmas.{all-quiet, not-struck}

module _ {A : Type 0} (at : At A) (command : Seen) where
  slot-idle : (slot : Option ArmedFault) → is_unmet command slot ≡ true
      → struck_in at command slot ≡ None
  slot-idle None e = refl
  slot-idle (Some a) e =
      not-struck (at a.fault.outcome) (meets command a.fault && is_due (count_for a command.initiator)) _
      (ap (λ hit. hit && is_due (count_for a command.initiator)) (not-true (meets command a.fault) e))

  stays : (a : ArmedFault) → is_unmet command (Some a) ≡ true
      → is_unmet command (Some (met at command a)) ≡ true
  stays a e =
      ap
      (λ hit. is_unmet command (Some (if hit then counted a command.initiator else a)))
      (and_right (is_some (at a.fault.outcome)) (meets command a.fault)
      (not-true (meets command a.fault) e))
      ∙ e

pub unmet : {A : Type 0} (at : At A) → Quiets meets_none at
unmet at command faults e =
    all-quiet command (is_unmet command) refl at (slot-idle at command) (stays at command) faults e
