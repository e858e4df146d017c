-- The keys of initiators after a reservation has moved to another.
use Rattle.std.proofs.Common.{◌≡◌, ◌==◌, ℕ, Bool, true, false, cond, not, ◌&&◌, ◌||◌, List, [], ◌∷◌, filter}
use Rattle.std.proofs.Common.{Option, Some, None, refl, sym, ap, ◌∙◌}
use Rattle.std.specs.Prelude.{if◌then◌else◌, is_some, unwrap_or}
use Rattle.std.specs.List.{list_any}
use Rattle.std.specs.Option.{option_map_or}
use Rattle.std.proofs.lemmas.Bool.{cond_both, eqb-true, false≢true, or_from, or_parts}
use Rattle.sg_wire.specs.declared.out_list.OutList.{OutList}
use Rattle.sg_units.specs.Registrations.{is_of, is_registered, key_of, with_registration, with_replaced}
use Rattle.sg_units.specs.Registrations.{is_registered_under, is_under, without_initiator}
use Rattle.sg_units.specs.Reservations.{is_held_by}
use Rattle.sg_units.specs.ReserveOut.{has_one_holder, moved_to, registration_by, with_moved}
use Rattle.sg_units.specs.declared.registrations.Registration.{Registration}
use Rattle.sg_units.specs.declared.reservation.Reservation.{Reservation}
use Rattle.sg_units.specs.declared.types.ReservationType.{ReservationType}
use Rattle.sg_fencing.specs.Registrants.{held_by, is_named}
use Rattle.sg_fencing.proofs.KeyLemmas.{is_registered-key_of, key_of-own_replaced, key_of-push}
use Rattle.sg_fencing.proofs.KeyLemmas.{key_of-replaced, key_of-unregistered, key_of-without, own-pushed}
use Rattle.std.proofs.Common.{eq-eqb}

-- ---- one that is not registered

none-under : (a b c d : Bool) → (a || c) ≡ false → (c ≡ false → d ≡ false) → ((a && b) || d) ≡ false
none-under true b c d h f = absurd (false≢true (sym h))
none-under false b c d h f = f h

pub not-under : (rs : List Registration) (j key : ℕ) → is_registered rs j ≡ false
    → is_registered_under rs j key ≡ false
not-under [] j key h = refl
not-under (r ∷ rs) j key h =
    none-under (is_of j r) (is_under key r) (is_registered rs j) (is_registered_under rs j key) h
    (not-under rs j key)

pub none-kept : (keep : Bool) (r : Registration) (rs : List Registration) (i : ℕ) (b : Bool)
    → (is_of i r || b) ≡ false → (b ≡ false → is_registered rs i ≡ false)
    → is_registered (cond keep (r ∷ rs) rs) i ≡ false
none-kept true r rs i b h f =
    let parts = or_parts (is_of i r) b h in
    or_from (is_of i r) (is_registered rs i) parts.0 (f parts.1)
none-kept false r rs i b h f = f (or_parts (is_of i r) b h).1

pub not-in-filter : (p : Registration → Bool) (rs : List Registration) (i : ℕ)
    → is_registered rs i ≡ false → is_registered (filter p rs) i ≡ false
not-in-filter p [] i h = refl
not-in-filter p (r ∷ rs) i h =
    none-kept (p r) r (filter p rs) i (is_registered rs i) h (not-in-filter p rs i)

-- ---- the initiator that a list names

-- it is another than one that the list does not name
pub target-other : (others : List (Option ℕ)) (i j : ℕ) → list_any (is_named i) others ≡ false
    → (unwrap_or (moved_to others) j == j) ≡ false → (unwrap_or (moved_to others) j == i) ≡ false
target-other [] i j none another = absurd (false≢true (sym another ∙ eq-eqb j j refl))
target-other (Some target ∷ []) i j none another = (or_parts (target == i) false none).0
target-other (None ∷ []) i j none another = absurd (false≢true (sym another ∙ eq-eqb j j refl))
target-other (first ∷ second ∷ others) i j none another =
    absurd (false≢true (sym another ∙ eq-eqb j j refl))

-- it is named alone
pub target-named : (others : List (Option ℕ)) (j : ℕ)
    → (unwrap_or (moved_to others) j == j) ≡ false → others ≡ Some (unwrap_or (moved_to others) j) ∷ []
target-named [] j another = absurd (false≢true (sym another ∙ eq-eqb j j refl))
target-named (Some target ∷ []) j another = refl
target-named (None ∷ []) j another = absurd (false≢true (sym another ∙ eq-eqb j j refl))
target-named (first ∷ second ∷ others) j another = absurd (false≢true (sym another ∙ eq-eqb j j refl))

-- ---- the reservation

-- an initiator holds it alone
pub record HeldBy (held : Option Reservation) (rs : List Registration) (j : ℕ) : Type 0 where
  pub kind : ReservationType
  pub held_is : held ≡ held_by kind j
  pub registered : is_registered rs j ≡ true

named-holder : (holder : Option ℕ) (known : Bool) (j : ℕ) → is_some holder ≡ true
    → (known && option_map_or (λ h. j == h) holder true) ≡ true → (holder ≡ Some j) × (known ≡ true)
named-holder None known j one h = absurd (false≢true one)
named-holder (Some i) true j one h = (ap Some (sym (eqb-true j i h)), refl)
named-holder (Some i) false j one h = absurd (false≢true h)

pub held-alone : (held : Option Reservation) (rs : List Registration) (j : ℕ)
    → has_one_holder held ≡ true → is_held_by held rs j ≡ true → HeldBy held rs j
held-alone None rs j one h = absurd (false≢true one)
held-alone (Some reservation) rs j one h =
    let parts = named-holder reservation.holder (is_registered rs j) j one h in
    record {
      kind = reservation.kind;
      held_is = λ d. Some (record { kind = reservation.kind; holder = parts.0 d });
      registered = parts.1;
    }

-- ---- its key, and the keys of others

module _ (all : List Registration) (caller target : ℕ) (list : OutList) where
  abbrev pub left : List Registration
  left = if list.unreg then without_initiator all caller else all

  abbrev new : Registration
  new = registration_by list target

  pub moved-key : key_of (with_moved all caller target list) target ≡ Some list.service_action_key
  moved-key =
      cond_both (is_registered left target) (with_replaced left new) (with_registration left new)
      (λ rs. key_of rs target ≡ Some list.service_action_key) (key_of-own_replaced left new)
      (own-pushed left new)

  pub moved-other : (i : ℕ) → (target == i) ≡ false
      → key_of (with_moved all caller target list) i ≡ key_of left i
  moved-other i other =
      cond_both (is_registered left target) (with_replaced left new) (with_registration left new)
      (λ rs. key_of rs i ≡ key_of left i) (λ _. key_of-replaced left i new other)
      (λ _. key_of-push left i new other)

  pub left-other : (i : ℕ) → (caller == i) ≡ false → key_of left i ≡ key_of all i
  left-other i other =
      cond_both list.unreg (without_initiator all caller) all (λ rs. key_of rs i ≡ key_of all i)
      (λ _. key_of-without all i caller other) (λ _. refl)

  pub left-caller : key_of left caller ≡ (if list.unreg then None else key_of all caller)
  left-caller = by-unreg list.unreg
    where
      by-unreg : (unreg : Bool)
          → key_of (if unreg then without_initiator all caller else all) caller
          ≡ (if unreg then None else key_of all caller)
      by-unreg true = key_of-unregistered all caller
      by-unreg false = refl

-- an initiator that is not registered, and is not named, stays so
pub moved-unknown : (all : List Registration) (i caller target : ℕ) (list : OutList)
    → is_registered all i ≡ false → (target == i) ≡ false
    → is_registered (with_moved all caller target list) i ≡ false
moved-unknown all i caller target list unknown other =
    let gone : is_registered (left all caller target list) i ≡ false =
    cond_both list.unreg (without_initiator all caller) all (λ rs. is_registered rs i ≡ false)
    (λ _. not-in-filter (λ r. not (is_of caller r)) all i unknown) (λ _. unknown) in
    is_registered-key_of (with_moved all caller target list) i
    ∙ (ap is_some (moved-other all caller target list i other)
    ∙ (sym (is_registered-key_of (left all caller target list) i) ∙ gone))
