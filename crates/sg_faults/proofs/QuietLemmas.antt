-- Faults that do nothing to a command, each by a condition on it alone.
use Rattle.std.proofs.Common.{◌≡◌, Bool, true, false, ◌&&◌, [], ◌∷◌, Option, Some, None, refl, ap, ◌∙◌}
use Rattle.std.proofs.lemmas.Bool.{and_parts}
use Rattle.std.specs.List.{list_all}
use Rattle.std.specs.Prelude.{if◌then◌else◌, is_some, option_and_then}
use Rattle.sg_faults.specs.Arming.{is_healed_by, lasts}
use Rattle.sg_faults.specs.Faults.{Faults, after_asking, asked, decided, healed, healed_slot, met}
use Rattle.sg_faults.specs.Faults.{struck_in}
use Rattle.sg_faults.specs.Meeting.{Seen}
use Rattle.sg_faults.specs.Places.{At}
use Rattle.sg_faults.specs.declared.fault.ArmedFault.{ArmedFault}
use Rattle.sg_faults.specs.declared.outcome.Struck.{Struck}

both-true : (b c : Bool) → b ≡ true → c ≡ true → (b && c) ≡ true
both-true true c e f = f
both-true false c e f = cc

pub not-struck : {A : Type 0} (outcome : Option A) (is_struck : Bool) (given : A → Struck A)
    → is_struck ≡ false
    → option_and_then (λ o. if is_struck then Some (given o) else None) outcome ≡ None
not-struck None is_struck given e = refl
not-struck (Some o) is_struck given e = ap (λ b. if b then Some (given o) else None) e

module _ (command : Seen) (quiet : Option ArmedFault → Bool) (none : quiet None ≡ true) where
  if-left : (left : Bool) (a : ArmedFault) → quiet (Some a) ≡ true
      → quiet (if left then Some a else None) ≡ true
  if-left true a e = e
  if-left false a e = none

  module _ {A : Type 0} (at : At A)
      (idle : (slot : Option ArmedFault) → quiet slot ≡ true → struck_in at command slot ≡ None)
      (stays : (a : ArmedFault) → quiet (Some a) ≡ true → quiet (Some (met at command a)) ≡ true) where
    slot-stays : (slot : Option ArmedFault) → quiet slot ≡ true
        → quiet (after_asking at command slot) ≡ true
    slot-stays None e = none
    slot-stays (Some a) e = if-left (lasts (met at command a)) (met at command a) (stays a e)

    pub all-quiet : (faults : Faults) → list_all quiet faults ≡ true
        → (decided at command faults ≡ None) × (list_all quiet (asked at command faults) ≡ true)
    all-quiet [] e = (refl, refl)
    all-quiet (slot ∷ faults) e =
        let here = (and_parts (quiet slot) (list_all quiet faults) e).0 in
        let rest = all-quiet faults (and_parts (quiet slot) (list_all quiet faults) e).1 in
        let undecided = ap is_some (idle slot here) in (
          ap (λ b. if b then struck_in at command slot else decided at command faults) undecided ∙ rest.0,
          ap
              (λ b. list_all quiet
              (after_asking at command slot ∷ (if b then faults else asked at command faults)))
              undecided
              ∙ both-true (quiet (after_asking at command slot)) (list_all quiet (asked at command faults))
              (slot-stays slot here) rest.1,
        )

  healed-slot-quiet : (slot : Option ArmedFault) → quiet slot ≡ true
      → quiet (healed_slot command slot) ≡ true
  healed-slot-quiet None e = none
  healed-slot-quiet (Some a) e = by-test (is_healed_by command a)
    where
      by-test : (gone : Bool) → quiet (if gone then None else Some a) ≡ true
      by-test true = none
      by-test false = e

  pub healed-quiet : (faults : Faults) → list_all quiet faults ≡ true
      → list_all quiet (healed command faults) ≡ true
  unfolding healed
  healed-quiet [] e = refl
  healed-quiet (slot ∷ faults) e =
      both-true (quiet (healed_slot command slot)) (list_all quiet (healed command faults))
      (healed-slot-quiet slot (and_parts (quiet slot) (list_all quiet faults) e).0)
      (healed-quiet faults (and_parts (quiet slot) (list_all quiet faults) e).1)
