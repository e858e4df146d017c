-- The test of registrations and a reservation.
use Rattle.std.proofs.Common.{◌≡◌, ◌≤◌, ℕ, Bool, true, false, not, ◌&&◌, List, [], ◌∷◌, length, Option}
use Rattle.std.proofs.Common.{refl, ap, arith, inl, inr, leb}
use Rattle.std.specs.List.{list_all}
use Rattle.std.proofs.lemmas.Bool.{and_parts, cases_Bool, eqb-true, le-leb, leb-true, not-true}
use Rattle.sg_units.specs.Registrations.{has_key, is_of, is_registered, max_registrations, registrations_of}
use Rattle.sg_units.specs.Reservations.{AreConsistent, is_held_if_any, names_holder_if_any}
use Rattle.sg_units.specs.Restored.{are_consistent, each_once}
use Rattle.sg_units.specs.declared.registrations.Registration.{Registration}
use Rattle.sg_units.specs.declared.reservation.Reservation.{Reservation}
use Rattle.sg_units.proofs.ConsistencyLemmas.{registrations_of-none}

both : (a b : Bool) → a ≡ true → b ≡ true → (a && b) ≡ true
both true b e f = f
both false b e f = cc

abbrev at-most-one : (all : List Registration) (r : Registration) → Bool
at-most-one all r = leb (registrations_of all r.initiator) 1

module _ (all : List Registration) where
  registrant : (rs : List Registration) (i : ℕ) → list_all (at-most-one all) rs ≡ true
      → is_registered rs i ≡ true → registrations_of all i ≤ 1
  registrant [] i once is = absurd cc
  registrant (r ∷ rs) i once is =
      let parts = and_parts (at-most-one all r) (list_all (at-most-one all) rs) once in
      elim (cases_Bool (is_of i r)) [
        | inl same ↦
            let number : r.initiator ≡ i = eqb-true r.initiator i same in
            let fits : registrations_of all r.initiator ≤ 1 =
            leb-true (registrations_of all r.initiator) 1 parts.0 in
            omega (arith, fits, ap (registrations_of all) number)
        | inr other ↦ registrant rs i parts.1 (cc (other, is))
      ]

  at-most : each_once all ≡ true → (i : ℕ) → registrations_of all i ≤ 1
  at-most once i = elim (cases_Bool (is_registered all i)) [
    | inl is ↦ registrant all i once is
    | inr absent ↦ omega (arith, registrations_of-none all i absent)
  ]

  each : ((i : ℕ) → registrations_of all i ≤ 1) → (rs : List Registration)
      → list_all (at-most-one all) rs ≡ true
  each h [] = refl
  each h (r ∷ rs) =
      both (at-most-one all r) (list_all (at-most-one all) rs)
      (le-leb (registrations_of all r.initiator) 1 (h r.initiator)) (each h rs)

pub consistent-passes : (rs : List Registration) (r : Option Reservation) → AreConsistent rs r
    → are_consistent rs r ≡ true
consistent-passes rs r is =
    both (leb (length rs) max_registrations) _ (le-leb (length rs) max_registrations is.within_room)
    (both (each_once rs) _ (each rs is.one_each rs)
    (both (not (has_key rs 0)) _ (ap not is.no_zero_key)
    (both (is_held_if_any r rs) (names_holder_if_any r) is.held is.holder)))

pub consistent-shown : (rs : List Registration) (r : Option Reservation) → are_consistent rs r ≡ true
    → AreConsistent rs r
consistent-shown rs r is =
    let a = and_parts (leb (length rs) max_registrations) _ is in
    let b = and_parts (each_once rs) _ a.1 in
    let c = and_parts (not (has_key rs 0)) _ b.1 in
    let d = and_parts (is_held_if_any r rs) (names_holder_if_any r) c.1 in
    record {
      one_each = at-most rs b.0;
      no_zero_key = not-true (has_key rs 0) c.0;
      within_room = leb-true (length rs) max_registrations a.0;
      held = d.0;
      holder = d.1;
    }
