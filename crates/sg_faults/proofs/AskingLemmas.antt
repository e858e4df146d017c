-- Faults are asked, armed and healed one after another.
use Rattle.std.proofs.Common.{◌≡◌, ◌<◌, ◌+◌, ℕ, List, ◌∷◌, ◌++◌, drop, take, get_or, length, set}
use Rattle.std.proofs.Common.{Option, Some, None, sym, ap, ◌∙◌, true}
use Rattle.std.specs.Prelude.{is_some, if◌then◌else◌}
use Rattle.std.proofs.lemmas.List.{drop_more, drop-set, take-append-drop, take-set}
use Rattle.sg_faults.specs.Arming.{armed}
use Rattle.sg_faults.specs.Faults.{Faults, after_asking, asked, struck_in, with_fault}
use Rattle.sg_faults.specs.Places.{At}
use Rattle.sg_faults.specs.declared.fault.ArmedFault.{ArmedFault}
use Rattle.sg_faults.specs.declared.fault.Fault.{Fault}
use Rattle.sg_faults.specs.Meeting.{Seen}

-- a list with one element set: the elements before it, the new one, and those after it
set-parts : {X : Type 0} (xs : List X) (n : ℕ) (x : X) → n < length xs
    → set xs n x ≡ take n xs ++ x ∷ drop (n + 1) xs
set-parts xs n x h =
    sym (take-append-drop n (set xs n x))
    ∙ (ap (λ ys. ys ++ drop n (set xs n x)) (take-set xs n x)
    ∙ ap (λ ys. take n xs ++ ys) (drop-set xs n x h))

-- ---- Armed

module _ (fault : Fault) where
  pub armed-here : (faults : Faults) (n : ℕ) → n < length faults → get_or faults n None ≡ None
      → take n faults ++ with_fault (drop n faults) fault ≡ with_fault faults fault
      → set faults n (Some (armed fault)) ≡ with_fault faults fault
  armed-here faults n h free rest =
      set-parts faults n (Some (armed fault)) h
      ∙ (ap (λ xs. take n faults ++ with_fault xs fault)
      (sym (drop_more faults n None h ∙ ap (λ x. x ∷ drop (n + 1) faults) free)) ∙ rest)

-- ---- Asked

module _ {A : Type 0} (at : At A) (command : Seen) where
  asked-due : (slot : Option ArmedFault) (rest : Faults) → is_some (struck_in at command slot) ≡ true
      → asked at command (slot ∷ rest) ≡ after_asking at command slot ∷ rest
  asked-due slot rest due =
      ap (λ b. after_asking at command slot ∷ (if b then rest else asked at command rest)) due

  -- the fault at an index is due, and those before it have been asked
  pub asked-here : (old now : Faults) (n : ℕ) → n < length now → drop n now ≡ drop n old
      → is_some (struck_in at command (get_or now n None)) ≡ true
      → take n now ++ asked at command (drop n old) ≡ asked at command old
      → set now n (after_asking at command (get_or now n None)) ≡ asked at command old
  asked-here old now n here same due so_far =
      let slot = get_or now n None in
      let parts : drop n old ≡ slot ∷ drop (n + 1) now = sym same ∙ drop_more now n None here in
      set-parts now n (after_asking at command slot) here
      ∙ (ap (λ xs. take n now ++ xs)
      (sym (asked-due slot (drop (n + 1) now) due) ∙ ap (asked at command) (sym parts))
      ∙ so_far)
