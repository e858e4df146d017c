-- Which of several commands of one operation code has the service action of a CDB.
use Rattle.std.proofs.Common.{◌≡◌, ◌≢◌, ℕ, ◌==◌, List, [], ◌∷◌, Bool, true, false, Option, Some, None}
use Rattle.std.proofs.Common.{cond, ap, eq-eqb, ◌∙◌, arith}
use Rattle.std.proofs.lemmas.Bool.Decides.{nat_tests}
use Rattle.std.specs.Prelude.{find}
use Rattle.sg_wire.specs.CdbDecoding.{has_action_of}
use Rattle.sg_wire.specs.Layout.{Layout}

pub is_its : (action code : ℕ) → action ≡ code → (action == code) ≡ true
is_its action code h = eq-eqb action code h

pub is_no : (action code : ℕ) → action ≢ code → (action == code) ≡ false
is_no action code h = grind (arith, nat_tests)

-- the only command of an operation code with a service action, and none
module _ (cdb : List ℕ) (only : Layout) where
  abbrev found_of_one : Option Layout
  found_of_one = find (has_action_of cdb) (only ∷ [])

  pub one-of-one : has_action_of cdb only ≡ true → found_of_one ≡ Some only
  one-of-one e = ap (λ b. cond b (Some only) None) e

  pub none-of-one : has_action_of cdb only ≡ false → found_of_one ≡ None
  none-of-one e = ap (λ b. cond b (Some only) None) e

-- the first of two commands with the service action, and none of them
module _ (cdb : List ℕ) (first second : Layout) where
  abbrev found_of_two : Option Layout
  found_of_two = find (has_action_of cdb) (first ∷ second ∷ [])

  pub first-of-two : has_action_of cdb first ≡ true → found_of_two ≡ Some first
  first-of-two e = ap (λ b. cond b (Some first) (find (has_action_of cdb) (second ∷ []))) e

  pub second-of-two : has_action_of cdb first ≡ false → has_action_of cdb second ≡ true
      → found_of_two ≡ Some second
  second-of-two e f =
      ap (λ b. cond b (Some first) (find (has_action_of cdb) (second ∷ []))) e
      ∙ ap (λ b. cond b (Some second) None) f

  pub none-of-two : has_action_of cdb first ≡ false → has_action_of cdb second ≡ false
      → found_of_two ≡ None
  none-of-two e f =
      ap (λ b. cond b (Some first) (find (has_action_of cdb) (second ∷ []))) e
      ∙ ap (λ b. cond b (Some second) None) f

-- of three
module _ (cdb : List ℕ) (first second third : Layout) where
  abbrev found_of_three : Option Layout
  found_of_three = find (has_action_of cdb) (first ∷ second ∷ third ∷ [])

  abbrev unless_first : Bool → Option Layout
  unless_first is_first = cond is_first (Some first) (find (has_action_of cdb) (second ∷ third ∷ []))

  pub first-of-three : has_action_of cdb first ≡ true → found_of_three ≡ Some first
  first-of-three e = ap unless_first e

  pub second-of-three : has_action_of cdb first ≡ false → has_action_of cdb second ≡ true
      → found_of_three ≡ Some second
  second-of-three e f = ap unless_first e ∙ first-of-two cdb second third f

  pub third-of-three : has_action_of cdb first ≡ false → has_action_of cdb second ≡ false
      → has_action_of cdb third ≡ true → found_of_three ≡ Some third
  third-of-three e f g = ap unless_first e ∙ second-of-two cdb second third f g

  pub none-of-three : has_action_of cdb first ≡ false → has_action_of cdb second ≡ false
      → has_action_of cdb third ≡ false → found_of_three ≡ None
  none-of-three e f g = ap unless_first e ∙ none-of-two cdb second third f g
