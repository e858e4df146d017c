-- The holder of a reservation that nobody shares, and its view.
use Rattle.std.proofs.Common.{◌≡◌, ◌≤◌, ◌<◌, ◌⊎◌, inl, inr, ◌==◌, ℕ, zero, suc, Bool, true, false}
use Rattle.std.proofs.Common.{◌&&◌, ◌||◌, List, [], ◌∷◌, length, drop, get_or, Option, Some}
use Rattle.std.proofs.Common.{None, refl, sym, ap, ◌∙◌, arith}
use Rattle.std.specs.Prelude.{map}
use Rattle.std.specs.List.{range_with_len}
use Rattle.std.proofs.lemmas.Bool.{and_right, cases_lt, eq-eqb, eqb-true, false≢true, ne_eqb}
use Rattle.std.proofs.lemmas.List.{get_or-set_other, get_or_past}
use Rattle.std.proofs.lemmas.List.FromFn.{get_or-map-range_with_len, length-map-range_with_len}
use Rattle.sg_wire.specs.Initiator.{initiator_count}
use Rattle.sg_units.specs.Attentions.{Pending, pending_for, remaining, with_optional}
use Rattle.sg_units.specs.Attentions.{without_condition, without_oldest}
use Rattle.sg_units.specs.Laws.{IsRefused, OthersAreRefused, is_exclusive_access}
use Rattle.sg_units.specs.Raised.{Conditions, queue_after, raised_for_each}
use Rattle.sg_units.specs.Registrations.{is_registered, key_of}
use Rattle.sg_units.specs.ReservationType.{is_all_registrants, is_same_type, is_shared}
use Rattle.sg_units.specs.Reservations.{has_type, holds, is_held_by, is_holder}
use Rattle.sg_units.specs.Reservations.{names_holder, names_holder_if_any}
use Rattle.sg_units.specs.declared.registrations.Registration.{Registration}
use Rattle.sg_units.specs.declared.reservation.Reservation.{Reservation}
use Rattle.sg_units.specs.declared.reservation_state.ReservationState.{ReservationState}
use Rattle.sg_units.specs.declared.types.ReservationType.{ReservationType}
use Rattle.sg_units.specs.declared.types.ReservationType.TheVariants.{WriteExclusive}
use Rattle.sg_units.specs.declared.types.ReservationType.TheVariants.{ExclusiveAccess}
use Rattle.sg_units.specs.declared.types.ReservationType.TheVariants.{WriteExclusiveRegistrantsOnly}
use Rattle.sg_units.specs.declared.types.ReservationType.TheVariants.{ExclusiveAccessRegistrantsOnly}
use Rattle.sg_units.specs.declared.types.ReservationType.TheVariants.{WriteExclusiveAllRegistrants}
use Rattle.sg_units.specs.declared.types.ReservationType.TheVariants.{ExclusiveAccessAllRegistrants}
use Rattle.sg_units.specs.declared.unit_attention.UnitAttention.{UnitAttention}
use Rattle.sg_fencing.proofs.ReserveOutLemmas.{is_one_holder}
use Rattle.sg_fencing.specs.Fencing.{holds_alone, holds_type, view_of}
use Rattle.sg_fencing.specs.Registrants.{held_by}
use Rattle.sg_target.specs.State.{IsWithinLimits, State}

-- ---- Who holds alone

pub record HoldsAlone (state : ReservationState) (i : ℕ) : Type 0 where
  pub kind : ReservationType
  pub reservation_is : state.reservation ≡ held_by kind i
  pub registered : is_registered state.registrations i ≡ true
  pub unshared : is_shared kind ≡ false

-- the same for a reservation in parts
record Held (kind : ReservationType) (holder : Option ℕ) (registered : Bool) (i : ℕ) : Type 0 where
  named : holder ≡ Some i
  here : registered ≡ true
  unshared : is_shared kind ≡ false

both : (a b x y : Bool) → (((a && b) && x) || ((a && b) && y)) ≡ true → (a ≡ true) × (b ≡ true)
both true true x y h = (refl, refl)
both true false x y h = absurd (false≢true h)
both false b x y h = absurd (false≢true h)

neither : (p : Bool) → ((p && false) || (p && false)) ≡ true → ⊥
neither true h = false≢true h
neither false h = false≢true h

abbrev holds_in_parts : ReservationType → (holder : Option ℕ) → (registered : Bool) → ℕ → Bool
holds_in_parts kind holder registered i =
    let held : Reservation = record { kind = kind; holder = holder } in
    ((registered && holds held i) && is_same_type kind WriteExclusive)
    || ((registered && holds held i) && is_same_type kind ExclusiveAccess)

held-named : (kind : ReservationType) (holder : Option ℕ) (registered : Bool) (i : ℕ)
    → is_shared kind ≡ false → names_holder false holder ≡ true
    → holds_in_parts kind holder registered i ≡ true → Held kind holder registered i
held-named kind None registered i u n h = absurd (false≢true n)
held-named kind (Some holder) registered i u n h =
    let parts = both registered (i == holder) (is_same_type kind WriteExclusive)
    (is_same_type kind ExclusiveAccess) h in
    record {
      named = ap Some (sym (eqb-true i holder parts.1));
      here = parts.0;
      unshared = u;
    }

held-parts : (kind : ReservationType) (holder : Option ℕ) (registered : Bool) (i : ℕ)
    → names_holder (is_all_registrants kind) holder ≡ true
    → holds_in_parts kind holder registered i ≡ true → Held kind holder registered i
held-parts WriteExclusive holder registered i n h =
    held-named WriteExclusive holder registered i refl n h
held-parts ExclusiveAccess holder registered i n h =
    held-named ExclusiveAccess holder registered i refl n h
held-parts WriteExclusiveRegistrantsOnly holder registered i n h = absurd (neither _ h)
held-parts ExclusiveAccessRegistrantsOnly holder registered i n h = absurd (neither _ h)
held-parts WriteExclusiveAllRegistrants holder registered i n h = absurd (neither _ h)
held-parts ExclusiveAccessAllRegistrants holder registered i n h = absurd (neither _ h)

abbrev holds_in : Option Reservation → List Registration → ℕ → Bool
holds_in held rs i =
    (is_held_by held rs i && has_type held WriteExclusive)
    || (is_held_by held rs i && has_type held ExclusiveAccess)

record HeldIn (held : Option Reservation) (rs : List Registration) (i : ℕ) : Type 0 where
  kind : ReservationType
  reservation_is : held ≡ held_by kind i
  registered : is_registered rs i ≡ true
  unshared : is_shared kind ≡ false

held-in : (held : Option Reservation) (rs : List Registration) (i : ℕ)
    → names_holder_if_any held ≡ true → holds_in held rs i ≡ true → HeldIn held rs i
held-in None rs i n h = absurd (false≢true h)
held-in (Some reservation) rs i n h =
    let parts = held-parts reservation.kind reservation.holder (is_registered rs i) i n h in
    record {
      kind = reservation.kind;
      reservation_is = λ d. Some (record { kind = reservation.kind; holder = parts.named d });
      registered = parts.here;
      unshared = parts.unshared;
    }

pub alone : (state : State) (i : ℕ) → IsWithinLimits state → holds_alone state i ≡ true
    → HoldsAlone state.reservations i
alone state i w h =
    let held = state.reservations.reservation in
    let parts = held-in held state.reservations.registrations i w.registered.holder h in
    record {
      kind = parts.kind;
      reservation_is = parts.reservation_is;
      registered = parts.registered;
      unshared = parts.unshared;
    }

pub one-holder : (state : ReservationState) (i : ℕ) → HoldsAlone state i
    → is_one_holder state.reservation i ≡ true
one-holder state i h = ap (λ held. is_one_holder held i) h.reservation_is ∙ eq-eqb i i refl

-- ---- What is refused to others

pub refuses-others : OthersAreRefused → (state : ReservationState) (i j : ℕ) → (j ≡ i → ⊥)
    → (h : HoldsAlone state i)
    → IsRefused state (record { kind = h.kind; holder = Some i }) j
refuses-others refuses state i j other h =
    let rs = state.registrations in
    refuses state (record { kind = h.kind; holder = Some i }) j h.reservation_is
    (ap (λ held. is_held_by held rs j) h.reservation_is
    ∙ and_right (is_registered rs j) (j == i) (ne_eqb j i other))
    (and_right (is_registered rs j) (is_shared h.kind) h.unshared)

excludes : (a : Bool) (kind : ReservationType) → (a && is_same_type kind ExclusiveAccess) ≡ true
    → is_exclusive_access kind ≡ true
excludes a ExclusiveAccess h = refl
excludes a WriteExclusive h = absurd (false≢true (sym (and_right a false refl) ∙ h))
excludes a WriteExclusiveRegistrantsOnly h = absurd (false≢true (sym (and_right a false refl) ∙ h))
excludes a ExclusiveAccessRegistrantsOnly h = refl
excludes a WriteExclusiveAllRegistrants h = absurd (false≢true (sym (and_right a false refl) ∙ h))
excludes a ExclusiveAccessAllRegistrants h = refl

pub is-exclusive : (state : State) (i : ℕ) → (h : HoldsAlone state.reservations i)
    → holds_type state i ExclusiveAccess ≡ true → is_exclusive_access h.kind ≡ true
is-exclusive state i h e =
    excludes (is_holder state.reservations i) h.kind
    (ap (λ held. is_holder state.reservations i && has_type held ExclusiveAccess)
    (sym h.reservation_is) ∙ e)

-- ---- Unit attentions

-- clearing one of another initiator
pub cleared-other : (pending : Pending) (i j : ℕ) → (j ≡ i → ⊥)
    → pending_for (without_oldest pending j) i ≡ pending_for pending i
cleared-other pending i j other =
    get_or-set_other pending j i (drop 1 (pending_for pending j)) [] (λ e. other (sym e))

pub without-other : (pending : Pending) (i j : ℕ) → (j ≡ i → ⊥) → (condition : UnitAttention)
    → pending_for (without_condition pending j condition) i ≡ pending_for pending i
without-other pending i j other condition =
    get_or-set_other pending j i (remaining condition (pending_for pending j)) [] (λ e. other (sym e))

pub without : (pending : Pending) (i : ℕ) (condition : UnitAttention)
    → pending_for (without_condition pending i condition) i ≡ remaining condition (pending_for pending i)
without [] i condition = refl
without (queue ∷ rest) zero condition = refl
without (queue ∷ rest) (suc i) condition = without rest i condition

pub cleared : (pending : Pending) (i : ℕ)
    → pending_for (without_oldest pending i) i ≡ drop 1 (pending_for pending i)
cleared [] i = refl
cleared (queue ∷ rest) zero = refl
cleared (queue ∷ rest) (suc i) = cleared rest i

queue-if : (pending : Pending) (conditions : Conditions) (i : ℕ) → length pending ≡ initiator_count
    → get_or conditions i None ≡ None → (i < initiator_count) ⊎ (initiator_count ≤ i)
    → get_or (map (queue_after pending conditions) (range_with_len 0 initiator_count)) i []
    ≡ pending_for pending i
queue-if pending conditions i length_is none (inl less) =
    get_or-map-range_with_len (queue_after pending conditions) 0 initiator_count i i [] less (omega arith)
    ∙ ap (with_optional (pending_for pending i)) none
queue-if pending conditions i length_is none (inr past) =
    let size = length-map-range_with_len (queue_after pending conditions) 0 initiator_count in
    get_or_past (map (queue_after pending conditions) (range_with_len 0 initiator_count)) i [] (omega arith)
    ∙ sym (get_or_past pending i [] (omega arith))

-- what is raised for others leaves the queue of an initiator
pub raised-others : (pending : Pending) (conditions : Conditions) (i : ℕ) → length pending ≡ initiator_count
    → get_or conditions i None ≡ None
    → pending_for (raised_for_each pending conditions) i ≡ pending_for pending i
unfolding raised_for_each
raised-others pending conditions i length_is none =
    queue-if pending conditions i length_is none (cases_lt i initiator_count)

-- a condition for each initiator, none for one of them
pub raised-none : (f : ℕ → Option UnitAttention) (i : ℕ) → f i ≡ None
    → get_or (map f (range_with_len 0 initiator_count)) i None ≡ None
raised-none f i h = none-if f i h (cases_lt i initiator_count)
  where
    none-if : (f : ℕ → Option UnitAttention) (i : ℕ) → f i ≡ None
        → (i < initiator_count) ⊎ (initiator_count ≤ i)
        → get_or (map f (range_with_len 0 initiator_count)) i None ≡ None
    none-if f i h (inl less) =
        get_or-map-range_with_len f 0 initiator_count i i None less (omega arith) ∙ h
    none-if f i h (inr past) =
        let size = length-map-range_with_len f 0 initiator_count in
        get_or_past (map f (range_with_len 0 initiator_count)) i None (omega arith)

-- ---- Views

pub same-view : (first second : State) (i : ℕ) → first.disk ≡ second.disk
    → first.modes ≡ second.modes
    → pending_for first.attentions i ≡ pending_for second.attentions i
    → key_of first.reservations.registrations i ≡ key_of second.reservations.registrations i
    → first.reservations.reservation ≡ second.reservations.reservation
    → first.stopped ≡ second.stopped
    → view_of first i ≡ view_of second i
same-view first second i disk modes attentions key reservation stopped =
    λ d. record {
      disk = disk d;
      modes = modes d;
      attentions = attentions d;
      key = key d;
      reservation = reservation d;
      stopped = stopped d;
    }
