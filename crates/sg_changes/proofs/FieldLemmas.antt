-- The fields of records are exact formats.
use Rattle.std.proofs.Common.{◌≡◌, ◌+◌, ◌-◌, ℕ, Bool, true, false, ◌&&◌, cond, eqb, List, [], ◌∷◌}
use Rattle.std.proofs.Common.{Option, Some, None, refl, sym, ap, ◌∙◌, inl, inr, arith}
use Rattle.std.specs.Prelude.{nat_le, nat_lt}
use Rattle.std.specs.List.{find}
use Rattle.std.proofs.lemmas.Bool.{and_parts, cases_Bool, eqb-true}
use Rattle.std.proofs.lemmas.Bool.Decides.{nat_tests}
use Rattle.sg_units.specs.Registrations.{max_registrations}
use Rattle.sg_units.specs.ReservationType.{code_of, each_type, type_of}
use Rattle.sg_units.specs.declared.types.ReservationType.{ReservationType}
use Rattle.sg_units.specs.declared.types.ReservationType.TheVariants.{WriteExclusive, ExclusiveAccess}
use Rattle.sg_units.specs.declared.types.ReservationType.TheVariants.{WriteExclusiveRegistrantsOnly}
use Rattle.sg_units.specs.declared.types.ReservationType.TheVariants.{ExclusiveAccessRegistrantsOnly}
use Rattle.sg_units.specs.declared.types.ReservationType.TheVariants.{WriteExclusiveAllRegistrants}
use Rattle.sg_units.specs.declared.types.ReservationType.TheVariants.{ExclusiveAccessAllRegistrants}
use Rattle.sg_wire.specs.Initiator.{initiator_count}
use Rattle.sg_changes.specs.ExtentFormat.{extent}
use Rattle.sg_changes.specs.Format.{Format, IsExact, number, pair, coded}
use Rattle.sg_changes.specs.Format.{counted, optional}
use Rattle.sg_changes.specs.ReservationFormat.{all_tg_pt, initiator, persistent, registrant}
use Rattle.sg_changes.specs.ReservationFormat.{registrant_code}
use Rattle.sg_changes.specs.ReservationFormat.{registrant_of, registration, reservation}
use Rattle.sg_changes.specs.ReservationFormat.{reservation_type, reservations}
use Rattle.sg_changes.proofs.FormatLemmas.{coded_exact, number_exact, pair_exact, pair_parts}
use Rattle.sg_changes.proofs.ManyLemmas.{counted_exact, number_below_exact}
use Rattle.sg_changes.proofs.ManyLemmas.{optional_exact}

-- ---- Values that are coded without a test

-- a record of several values, and the values of the record
pub renamed_exact : {X Y : Type 0} (to : X → Y) (from : Y → X) (format : Format X) → IsExact format
    → ((x : X) → from (to x) ≡ x) → ((y : Y) → to (from y) ≡ y)
    → IsExact (coded (λ x. Some (to x)) (λ y. Some (from y)) format)
renamed_exact {X} {Y} to from format exact there back =
    coded_exact (λ x. Some (to x)) (λ y. Some (from y)) format exact
    (λ x y e. let same : to x ≡ y = cc in ap Some (ap from (sym same) ∙ there x))
    (λ x y e. let same : from y ≡ x = cc in ap Some (ap to (sym same) ∙ back y))

-- what a search by a code finds has the code
pub found_code : {X : Type 0} (code : X → ℕ) (n : ℕ) (xs : List X) (x : X)
    → find (λ y. eqb (code y) n) xs ≡ Some x → code x ≡ n
found_code code n [] x e = absurd cc
found_code code n (y ∷ ys) x e = elim (cases_Bool (eqb (code y) n)) [
  | inl same ↦
      let is : y ≡ x = cc (same, e) in
      ap code (sym is) ∙ eqb-true (code y) n same
  | inr other ↦
      found_code code n ys x
      (sym (ap (λ (b : Bool). cond b (Some y) (find (λ z. eqb (code z) n) ys)) other) ∙ e)
]

-- ---- Extents

pub extent_exact : IsExact extent
unfolding extent
extent_exact =
    renamed_exact (λ p. record { lba = p.0; count = p.1 }) (λ e. (e.lba, e.count))
    (pair (number 8) (number 4))
    (pair_exact (number 8) (number 4) (number_exact 8) (number_exact 4)) (λ p. refl) (λ e. refl)

-- ---- Registrations and reservation

initiator-exact : IsExact initiator
unfolding initiator
initiator-exact = number_below_exact initiator_count

-- a registrant and its code, without ALL_TG_PT and with it
low-code : (n : ℕ) → nat_lt n initiator_count ≡ true → registrant_code (n, false) ≡ Some n
low-code n h = rw h refl

high-code : (n : ℕ) → (nat_le all_tg_pt n && nat_lt (n - all_tg_pt) initiator_count) ≡ true
    → registrant_code (n - all_tg_pt, true) ≡ Some n
high-code n h =
    let parts = and_parts (nat_le all_tg_pt n) (nat_lt (n - all_tg_pt) initiator_count) h in
    let there : n - all_tg_pt + all_tg_pt ≡ n = grind (arith, nat_tests) in
    rw parts.1 (ap Some there)

low-of : (i : ℕ) → nat_lt i initiator_count ≡ true → registrant_of i ≡ Some (i, false)
low-of i h = rw h refl

high-of : (i : ℕ) → nat_lt i initiator_count ≡ true → registrant_of (i + all_tg_pt) ≡ Some (i, true)
high-of i h =
    let low : nat_lt (i + all_tg_pt) initiator_count ≡ false = grind (arith, nat_tests) in
    let again : i + all_tg_pt - all_tg_pt ≡ i = omega arith in
    let high : (nat_le all_tg_pt (i + all_tg_pt)
    && nat_lt (i + all_tg_pt - all_tg_pt) initiator_count) ≡ true = grind (arith, nat_tests) in
    rw (low, high) (ap (λ k. Some (k, true)) again)

registrant-there : (n : ℕ) (r : ℕ × Bool) → registrant_of n ≡ Some r → registrant_code r ≡ Some n
registrant-there n r e = by-tests (nat_lt n initiator_count)
    (nat_le all_tg_pt n && nat_lt (n - all_tg_pt) initiator_count) refl refl e
  where
    by-tests : (low high : Bool) → nat_lt n initiator_count ≡ low
        → (nat_le all_tg_pt n && nat_lt (n - all_tg_pt) initiator_count) ≡ high
        → cond low (Some (n, false)) (cond high (Some (n - all_tg_pt, true)) None) ≡ Some r
        → registrant_code r ≡ Some n
    by-tests true high l h is = ap registrant_code (sym (pair_parts (n, false) r is)) ∙ low-code n l
    by-tests false true l h is =
        ap registrant_code (sym (pair_parts (n - all_tg_pt, true) r is)) ∙ high-code n h
    by-tests false false l h is = absurd cc

registrant-back : (r : ℕ × Bool) (n : ℕ) → registrant_code r ≡ Some n → registrant_of n ≡ Some r
registrant-back (i, all) n e = by-tests (nat_lt i initiator_count) all refl e
  where
    by-tests : (low ports : Bool) → nat_lt i initiator_count ≡ low
        → cond low (Some (cond ports (i + all_tg_pt) i)) None ≡ Some n
        → registrant_of n ≡ Some (i, ports)
    by-tests true true l is =
        let same : i + all_tg_pt ≡ n = cc in ap registrant_of (sym same) ∙ high-of i l
    by-tests true false l is = let same : i ≡ n = cc in ap registrant_of (sym same) ∙ low-of i l
    by-tests false ports l is = absurd cc

registrant-exact : IsExact registrant
unfolding registrant
registrant-exact =
    coded_exact registrant_of registrant_code (number 1) (number_exact 1) registrant-there
    (λ n r e. registrant-back r n e)

registration-exact : IsExact registration
unfolding registration
registration-exact =
    renamed_exact (λ p. record { initiator = p.0.0; key = p.1; all_tg_pt = p.0.1 })
    (λ r. ((r.initiator, r.all_tg_pt), r.key))
    (pair registrant (number 8))
    (pair_exact registrant (number 8) registrant-exact (number_exact 8)) (λ p. refl) (λ r. refl)

type-again : (type : ReservationType) → type_of (code_of type) ≡ Some type
type-again WriteExclusive = refl
type-again ExclusiveAccess = refl
type-again WriteExclusiveRegistrantsOnly = refl
type-again ExclusiveAccessRegistrantsOnly = refl
type-again WriteExclusiveAllRegistrants = refl
type-again ExclusiveAccessAllRegistrants = refl

-- a table of codes
pub table_exact : {X : Type 0} (code : X → ℕ) (find_code : ℕ → Option X)
    → ((n : ℕ) (x : X) → find_code n ≡ Some x → code x ≡ n) → ((x : X) → find_code (code x) ≡ Some x)
    → IsExact (coded find_code (λ x. Some (code x)) (number 1))
table_exact code find_code found again =
    coded_exact find_code (λ x. Some (code x)) (number 1) (number_exact 1) (λ n x e. ap Some (found n x e))
    (λ n x e. let same : code x ≡ n = cc in ap find_code (sym same) ∙ again x)

reservation_type-exact : IsExact reservation_type
unfolding reservation_type
reservation_type-exact = table_exact code_of type_of (λ n x e. found_code code_of n each_type x e) type-again

reservation-exact : IsExact reservation
unfolding reservation
reservation-exact =
    renamed_exact (λ p. record { kind = p.0; holder = p.1 }) (λ r. (r.kind, r.holder))
    (pair reservation_type (optional initiator))
    (pair_exact reservation_type (optional initiator) reservation_type-exact
    (optional_exact initiator initiator-exact))
    (λ p. refl) (λ r. refl)

persistent-exact : IsExact persistent
unfolding persistent
persistent-exact =
    renamed_exact (λ p. record { registrations = p.0; reservation = p.1 })
    (λ s. (s.registrations, s.reservation))
    (pair (counted max_registrations registration) (optional reservation))
    (pair_exact (counted max_registrations registration) (optional reservation)
    (counted_exact registration registration-exact max_registrations (omega arith))
    (optional_exact reservation reservation-exact))
    (λ p. refl) (λ s. refl)

pub reservations_exact : IsExact reservations
unfolding reservations
reservations_exact = optional_exact persistent persistent-exact
