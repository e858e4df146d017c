-- An initiator that a reservation moves to.
use Rattle.std.proofs.Common.{◌≡◌, ◌≢◌, ◌≤◌, ◌+◌, ◌==◌, ℕ, Bool, true, false, not, ◌||◌, List, []}
use Rattle.std.proofs.Common.{◌∷◌, length}
use Rattle.std.proofs.Common.{Option, Some, None, refl, sym, ap, ◌∙◌, arith, filter}
use Rattle.std.specs.Prelude.{if◌then◌else◌, slice_index_or}
use Rattle.std.proofs.lemmas.Bool.{cond_both}
use Rattle.std.proofs.lemmas.Bool.Decides.{nat_tests}
use Rattle.std.proofs.lemmas.List.{length-append}
use Rattle.std.proofs.lemmas.List.Folds.{list_any-append}
use Rattle.sg_units.specs.Registrations.{is_of, is_registered}
use Rattle.sg_units.specs.Registrations.{with_registration, with_replaced, without_initiator}
use Rattle.sg_units.specs.Reservations.{IsConsistent}
use Rattle.sg_units.specs.ReserveOut.{moved_to, registration_by, with_moved}
use Rattle.sg_units.specs.declared.registrations.Registration.{Registration}
use Rattle.sg_units.specs.declared.reservation_state.ReservationState.{ReservationState}
use Rattle.sg_units.specs.declared.types.ReservationType.TheVariants.{WriteExclusive}
use Rattle.sg_units.proofs.ConsistencyLemmas.{IsNearlyConsistent, has_holder-replaced, has_key-filter}
use Rattle.sg_units.proofs.ConsistencyLemmas.{has_key-replaced, length-replaced, nearly-push}
use Rattle.sg_units.proofs.ConsistencyLemmas.{registrations_of-filter, registrations_of-replaced}
use Rattle.sg_wire.specs.declared.out_list.OutList.{OutList}

-- ---- what a TransportID names

pub named-alone : (others : List (Option ℕ)) → length others ≡ 1
    → slice_index_or others 0 None ≡ moved_to others
named-alone [] one = absurd (omega (arith, one))
named-alone (named ∷ []) one = refl
named-alone (named ∷ second ∷ others) one = absurd (omega (arith, one))

pub named-among : (others : List (Option ℕ)) → length others ≢ 1 → None ≡ moved_to others
named-among [] other = refl
named-among (named ∷ []) other = absurd (other refl)
named-among (named ∷ second ∷ others) other = refl

pub ruleset one_named = (named-alone, named-among)

-- ---- room

pub ruleset room = (length-replaced, length-append, nat_tests)

-- ---- what stays consistent

nearly-filtered : (state : ReservationState) (p : Registration → Bool) → IsConsistent state
    → IsNearlyConsistent (filter p state.registrations) None
nearly-filtered state p h = record {
  one_each = λ i. omega (arith, h.one_each i, registrations_of-filter p state.registrations i);
  no_zero_key = has_key-filter p state.registrations 0 h.no_zero_key;
  held = refl;
  holder = refl;
}

nearly-replaced : (rs : List Registration) (new : Registration) → (new.key == 0) ≡ false
    → IsNearlyConsistent rs None → IsNearlyConsistent (with_replaced rs new) None
nearly-replaced rs new e h = record {
  one_each = λ i. omega (arith, h.one_each i, registrations_of-replaced rs new i);
  no_zero_key = has_key-replaced rs new e h.no_zero_key;
  held = refl;
  holder = refl;
}

pub nearly-moved : (state : ReservationState) (caller target : ℕ) (list : OutList)
    → (list.service_action_key == 0) ≡ false → IsConsistent state
    → IsNearlyConsistent (with_moved state.registrations caller target list) None
nearly-moved state caller target list e h =
    let all = state.registrations in
    let left = if list.unreg then without_initiator all caller else all in
    let new = registration_by list target in
    let rest : IsNearlyConsistent left None =
    cond_both list.unreg (without_initiator all caller) all (λ rs. IsNearlyConsistent rs None)
    (λ _. nearly-filtered state (λ r. not (is_of caller r)) h)
    (λ _. record { one_each = h.one_each; no_zero_key = h.no_zero_key; held = refl; holder = refl }) in
    cond_both (is_registered left target) (with_replaced left new) (with_registration left new)
    (λ rs. IsNearlyConsistent rs None) (λ _. nearly-replaced left new e rest)
    (λ unknown. nearly-push left None new unknown e rest)

-- ---- who is registered

registered-pushed : (rs : List Registration) (new : Registration)
    → is_registered (with_registration rs new) new.initiator ≡ true
registered-pushed rs new =
    list_any-append (is_of new.initiator) rs (new ∷ []) ∙ grind (arith, nat_tests)

pub registered-moved : (all : List Registration) (caller target : ℕ) (list : OutList)
    → is_registered (with_moved all caller target list) target ≡ true
registered-moved all caller target list =
    let left = if list.unreg then without_initiator all caller else all in
    let new = registration_by list target in
    cond_both (is_registered left target) (with_replaced left new) (with_registration left new)
    (λ rs. is_registered rs target ≡ true)
    (λ here. has_holder-replaced (record { kind = WriteExclusive; holder = Some target }) left new ∙ here)
    (λ _. registered-pushed left new)
