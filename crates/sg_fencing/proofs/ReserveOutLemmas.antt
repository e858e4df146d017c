-- The effect of PERSISTENT RESERVE OUT on the one holder of a reservation: on its key, the
-- reservation, and its unit attentions.
use Rattle.std.proofs.Common.{◌≡◌, ◌==◌, ℕ, Bool, true, false, not, ◌&&◌, ◌||◌, List}
use Rattle.std.proofs.Common.{Option, Some, None, Ok, refl, sym, ap, ◌∙◌}
use Rattle.std.specs.Prelude.{if◌then◌else◌}
use Rattle.std.specs.Option.{option_map_or}
use Rattle.std.proofs.lemmas.Bool.{false≢true}
use Rattle.sg_wire.specs.declared.command.out_action.OutAction.{OutAction}
use Rattle.sg_wire.specs.declared.command.out_action.OutAction.TheVariants.{Register, Reserve}
use Rattle.sg_wire.specs.declared.command.out_action.OutAction.TheVariants.{Release, Clear, Preempt}
use Rattle.sg_wire.specs.declared.command.out_action.OutAction.TheVariants.{PreemptAndAbort}
use Rattle.sg_wire.specs.declared.command.out_action.OutAction.TheVariants.{RegisterAndIgnoreExistingKey}
use Rattle.sg_wire.specs.declared.command.out_action.OutAction.TheVariants.{RegisterAndMove}
use Rattle.sg_units.specs.Laws.{ends_for_others}
use Rattle.sg_units.specs.Registrations.{is_registered, key_of, with_registration, with_replaced}
use Rattle.sg_units.specs.Registrations.{without_initiator, without_key}
use Rattle.sg_units.specs.Reservations.{while_held}
use Rattle.sg_units.specs.ReservationType.{is_all_registrants, type_of}
use Rattle.sg_units.specs.ReserveOut.{action_outcome, move_cases, outcome, preempt_cases}
use Rattle.sg_units.specs.ReserveOut.{preempted, raised_for, register_cases, register_together_cases}
use Rattle.sg_units.specs.ReserveOut.{registered_together, registration_by, release_cases, released}
use Rattle.sg_units.specs.ReserveOut.{released_unless_held, reserve_cases}
use Rattle.sg_wire.specs.declared.out_list.OutList.{OutList}
use Rattle.sg_wire.specs.declared.profile.Rules.{Rules}
use Rattle.sg_units.specs.declared.registrations.Registration.{Registration}
use Rattle.sg_units.specs.declared.reservation.Reservation.{Reservation}
use Rattle.sg_units.specs.declared.reservation_change.ReservationChange.{ReservationChange}
use Rattle.sg_units.specs.declared.reservation_state.ReservationState.{ReservationState}
use Rattle.sg_units.specs.declared.types.ReservationType.{ReservationType}
use Rattle.sg_units.specs.declared.unit_attention.UnitAttention.{UnitAttention}
use Rattle.sg_units.proofs.OutcomeLemmas.{EffectIs, FirstIs, case_or, choice, if-accepted, effective}
use Rattle.sg_units.proofs.OutcomeLemmas.{last_case, refused, releasing, taking, typed}
use Rattle.sg_fencing.specs.Registrants.{held_by}
use Rattle.sg_fencing.proofs.KeyLemmas.{key_of-push, key_of-replaced, key_of-without, key_of-without_key}
use Rattle.sg_fencing.proofs.KeyLemmas.{stays_registered, together-known}

-- ---- The one holder

abbrev pub is_one_holder : Option Reservation → ℕ → Bool
is_one_holder held i =
    option_map_or (λ (r : Reservation). option_map_or (λ holder. holder == i) r.holder false) held
    false

-- the other fields are as in a state
abbrev pub alone_in : List Registration → ReservationType → (holder : ℕ) → ReservationState
    → ReservationState
alone_in all kind i state =
    record state { registrations = all; reservation = held_by kind i }

pub while_held-alone : (kind : ReservationType) (i : ℕ) (rest : List Registration)
    → is_registered rest i ≡ true → while_held (held_by kind i) rest ≡ held_by kind i
while_held-alone kind i rest h = ap (λ b. if b then held_by kind i else None) h

released-alone : (kind : ReservationType) (i : ℕ) (rest : List Registration)
    → is_registered rest i ≡ true → released_unless_held (held_by kind i) rest ≡ None
released-alone kind i rest h = ap (λ b. if b then None else released kind) h

-- ---- The command of another initiator

-- the key of i and the reservation are as they were, and nothing is raised for i
pub record IsLeft (all : List Registration) (held : Option Reservation) (i j : ℕ)
    (change : ReservationChange) : Type 0 where
  pub key : key_of change.registrations i ≡ key_of all i
  pub reservation : change.reservation ≡ held
  pub unraised : raised_for all j change i ≡ None

-- they are so if i is the one holder afterwards
abbrev pub IsLeftIfHolder : List Registration → Option Reservation → (i j : ℕ) → ReservationChange
    → Type 0
IsLeftIfHolder all held i j change =
    is_one_holder change.reservation i ≡ true → IsLeft all held i j change

none-raised : (a b : Bool) (for_remaining for_removed : Option UnitAttention) → b ≡ true
    → for_remaining ≡ None
    → (if a then None else (if b then for_remaining else for_removed)) ≡ None
none-raised true b for_remaining for_removed h e = refl
none-raised false true for_remaining for_removed h e = e
none-raised false false for_remaining for_removed h e = absurd (false≢true h)

module _ (all : List Registration) (held : Option Reservation) (i j : ℕ) where
  -- i's registration stays, and nothing is raised for those who remain
  stays : (change : ReservationChange) → is_registered all i ≡ true
      → key_of change.registrations i ≡ key_of all i → change.reservation ≡ held
      → change.for_remaining ≡ None → EffectIs (IsLeftIfHolder all held i j) (Ok change)
  stays change here key same none =
      effective (IsLeftIfHolder all held i j) change (λ _. record {
        key = key;
        reservation = same;
        unraised =
            none-raised (i == j || not (is_registered all i)) (is_registered change.registrations i)
            change.for_remaining change.for_removed
            (stays_registered all change.registrations i key here) none;
      })

  -- i holds nothing afterwards
  ends : (change : ReservationChange) → is_one_holder change.reservation i ≡ false
      → EffectIs (IsLeftIfHolder all held i j) (Ok change)
  ends change none =
      effective (IsLeftIfHolder all held i j) change (λ one. absurd (false≢true (sym none ∙ one)))

taken_if : (type : ReservationType) (all_registrants : Bool) (i j : ℕ) → (j == i) ≡ false →
    (let holder : Option ℕ = if all_registrants then None else Some j in
    is_one_holder (Some (record { kind = type; holder = holder })) i ≡ false)
taken_if type true i j h = refl
taken_if type false i j h = h

took : (all : List Registration) (held : Option Reservation) (i j : ℕ)
    (type : Option ReservationType) (rest : List Registration) → (j == i) ≡ false
    → EffectIs (IsLeftIfHolder all held i j) (preempted held j type rest)
took all held i j type rest h =
    taking (IsLeftIfHolder all held i j) held j type rest
    (λ type. ends all held i j _ (taken_if type (is_all_registrants type) i j h))

no_holder : (known b : Bool) → b ≡ false → not (known && b) ≡ false → ⊥
no_holder true b h e = false≢true (sym e ∙ ap not h)
no_holder false b h e = false≢true (sym e)

-- The caller j is another initiator than i, which is registered and the one holder.
module _ (rules : Rules) (all : List Registration) (kind : ReservationType) (before : ReservationState)
    (i j : ℕ) where
  abbrev P : ReservationChange → Type 0
  P = IsLeftIfHolder all (held_by kind i) i j

  register_leaves : (list : OutList) → is_registered all i ≡ true → (j == i) ≡ false
      → FirstIs (EffectIs P) (register_cases rules (alone_in all kind i before) j list)
  unfolding register_cases
  register_leaves list here other =
      let held = held_by kind i in
      let own = registration_by list j in
      let gone = key_of-without all i j other in
      let left = stays_registered all (without_initiator all j) i gone here in
      case_or (EffectIs P) _ _ (λ _. stays all held i j _ here refl refl refl)
      (λ _. case_or (EffectIs P) _ _ (λ _. refused P _)
      (λ _. case_or (EffectIs P) _ _
      (λ _. stays all held i j _ here (key_of-push all i own other) refl refl)
      (λ _. case_or (EffectIs P) _ _
      (λ _. stays all held i j _ here (key_of-replaced all i own other) refl refl)
      (λ _. last_case (EffectIs P) _ _ refl
      (stays all held i j _ here gone (while_held-alone kind i _ left) (released-alone kind i _ left))))))

  together_leaves : (list : OutList) → is_registered all i ≡ true
      → FirstIs (EffectIs P) (register_together_cases (alone_in all kind i before) j list)
  unfolding register_together_cases
  together_leaves list here =
      case_or (EffectIs P) _ _ (λ _. stays all (held_by kind i) i j _ here refl refl refl)
      (λ _. case_or (EffectIs P) _ _ (λ _. refused P _)
      (λ _. case_or (EffectIs P) _ _ (λ _. refused P _)
      (λ _. case_or (EffectIs P) _ _ (λ _. refused P _)
      (λ _. last_case (EffectIs P) _ _ refl
      (stays all (held_by kind i) i j _ here (together-known list all i j here) refl refl)))))

  reserve_leaves : (new : ReservationType) → is_registered all i ≡ true
      → FirstIs (EffectIs P) (reserve_cases (alone_in all kind i before) j new)
  unfolding reserve_cases
  reserve_leaves new here =
      case_or (EffectIs P) _ _ (λ no. absurd (false≢true no))
      (λ _. case_or (EffectIs P) _ _ (λ _. stays all (held_by kind i) i j _ here refl refl refl)
      (λ _. last_case (EffectIs P) _ _ refl (refused P _)))

  release_leaves : (new : ReservationType) → is_registered all i ≡ true
      → FirstIs (EffectIs P) (release_cases (alone_in all kind i before) j new)
  unfolding release_cases
  release_leaves new here =
      case_or (EffectIs P) _ _ (λ _. stays all (held_by kind i) i j _ here refl refl refl)
      (λ _. case_or (EffectIs P) _ _ (λ _. refused P _)
      (λ _. last_case (EffectIs P) _ _ refl (ends all (held_by kind i) i j _ refl)))

  preempt_leaves : (type : Option ReservationType) (sark : ℕ) → is_registered all i ≡ true
      → (j == i) ≡ false
      → FirstIs (EffectIs P) (preempt_cases rules (alone_in all kind i before) j type sark)
  unfolding preempt_cases
  preempt_leaves type sark here other =
      let held = held_by kind i in
      case_or (EffectIs P) _ _ (λ _. refused P _)
      (λ _. case_or (EffectIs P) _ _ (λ _. refused P _)
      (λ _. case_or (EffectIs P) _ _ (λ _. took all held i j type _ other)
      (λ absent. case_or (EffectIs P) _ _ (λ no. absurd (false≢true no))
      (λ _. case_or (EffectIs P) _ _ (λ _. refused P _)
      (λ _.
      let gone = key_of-without_key all i sark absent in
      let left = stays_registered all (without_key all sark) i gone here in
      last_case (EffectIs P) _ _ refl
      (stays all held i j _ here gone (while_held-alone kind i _ left) refl))))))

  -- j does not hold it
  move_leaves : (list : OutList) → (j == i) ≡ false
      → FirstIs (EffectIs P) (move_cases (alone_in all kind i before) j list)
  unfolding move_cases
  move_leaves list other =
      case_or (EffectIs P) _ _ (λ no. absurd (false≢true no))
      (λ _. case_or (EffectIs P) _ _ (λ _. refused P _)
      (λ is. absurd (no_holder (is_registered all j) (j == i) other is)))

  action_leaves : (action : OutAction) (type : Option ReservationType) (list : OutList)
      → is_registered all i ≡ true → (j == i) ≡ false
      → EffectIs P (action_outcome rules (alone_in all kind i before) j action type list)
  action_leaves Register type list here other =
      choice (EffectIs P) list.spec_i_pt _ _ (λ _. (together_leaves list here).first)
      (λ _. (register_leaves list here other).first)
  action_leaves Reserve type list here other =
      typed P type _ (λ new. (reserve_leaves new here).first)
  action_leaves Release type list here other =
      releasing P (alone_in all kind i before) j type
      ((stays all (held_by kind i) i j _ here refl refl refl).shown _ refl)
      (λ new. release_leaves new here)
  action_leaves Clear type list here other = ends all (held_by kind i) i j _ refl
  action_leaves Preempt type list here other =
      (preempt_leaves type list.service_action_key here other).first
  action_leaves PreemptAndAbort type list here other =
      (preempt_leaves type list.service_action_key here other).first
  action_leaves RegisterAndIgnoreExistingKey type list here other =
      (register_leaves list here other).first
  action_leaves RegisterAndMove type list here other = (move_leaves list other).first

  pub outcome_leaves : (action : OutAction) (scope_type : ℕ) (list : OutList)
      → is_registered all i ≡ true → (j == i) ≡ false
      → EffectIs P (outcome rules (alone_in all kind i before) j action scope_type list)
  outcome_leaves action scope_type list here other =
      if-accepted P rules (alone_in all kind i before) j action scope_type list
      (λ _. action_leaves action (type_of scope_type) list here other)

-- ---- The command of another initiator that can't end the reservation

-- i is registered, and the reservation is as it was
pub record IsHeld (held : Option Reservation) (i : ℕ) (change : ReservationChange) : Type 0 where
  pub here : is_registered change.registrations i ≡ true
  pub reservation : change.reservation ≡ held

stands : (held : Option Reservation) (i : ℕ) (change : ReservationChange)
    → is_registered change.registrations i ≡ true → change.reservation ≡ held
    → EffectIs (IsHeld held i) (Ok change)
stands held i change here same =
    effective (IsHeld held i) change (record { here = here; reservation = same })

module _ (rules : Rules) (all : List Registration) (kind : ReservationType) (before : ReservationState)
    (i j : ℕ) where
  abbrev H : ReservationChange → Type 0
  H = IsHeld (held_by kind i) i

  register_holds : (list : OutList) → is_registered all i ≡ true → (j == i) ≡ false
      → FirstIs (EffectIs H) (register_cases rules (alone_in all kind i before) j list)
  unfolding register_cases
  register_holds list here other =
      let held = held_by kind i in
      let own = registration_by list j in
      let gone = key_of-without all i j other in
      let left = stays_registered all (without_initiator all j) i gone here in
      let pushed = stays_registered all (with_registration all own) i (key_of-push all i own other) here in
      let replaced = stays_registered all (with_replaced all own) i (key_of-replaced all i own other) here in
      case_or (EffectIs H) _ _ (λ _. stands held i _ here refl)
      (λ _. case_or (EffectIs H) _ _ (λ _. refused H _)
      (λ _. case_or (EffectIs H) _ _ (λ _. stands held i _ pushed refl)
      (λ _. case_or (EffectIs H) _ _ (λ _. stands held i _ replaced refl)
      (λ _. last_case (EffectIs H) _ _ refl (stands held i _ left (while_held-alone kind i _ left))))))

  together_holds : (list : OutList) → is_registered all i ≡ true
      → FirstIs (EffectIs H) (register_together_cases (alone_in all kind i before) j list)
  unfolding register_together_cases
  together_holds list here =
      let still = stays_registered all (registered_together all j list) i (together-known list all i j here)
      here in
      case_or (EffectIs H) _ _ (λ _. stands (held_by kind i) i _ here refl)
      (λ _. case_or (EffectIs H) _ _ (λ _. refused H _)
      (λ _. case_or (EffectIs H) _ _ (λ _. refused H _)
      (λ _. case_or (EffectIs H) _ _ (λ _. refused H _)
      (λ _. last_case (EffectIs H) _ _ refl (stands (held_by kind i) i _ still refl)))))

  reserve_holds : (new : ReservationType) → is_registered all i ≡ true
      → FirstIs (EffectIs H) (reserve_cases (alone_in all kind i before) j new)
  unfolding reserve_cases
  reserve_holds new here =
      case_or (EffectIs H) _ _ (λ no. absurd (false≢true no))
      (λ _. case_or (EffectIs H) _ _ (λ _. stands (held_by kind i) i _ here refl)
      (λ _. last_case (EffectIs H) _ _ refl (refused H _)))

  release_holds : (new : ReservationType) → is_registered all i ≡ true → (j == i) ≡ false
      → FirstIs (EffectIs H) (release_cases (alone_in all kind i before) j new)
  unfolding release_cases
  release_holds new here other =
      case_or (EffectIs H) _ _ (λ _. stands (held_by kind i) i _ here refl)
      (λ is. absurd (no_holder (is_registered all j) (j == i) other is))

  move_holds : (list : OutList) → (j == i) ≡ false
      → FirstIs (EffectIs H) (move_cases (alone_in all kind i before) j list)
  unfolding move_cases
  move_holds list other =
      case_or (EffectIs H) _ _ (λ no. absurd (false≢true no))
      (λ _. case_or (EffectIs H) _ _ (λ _. refused H _)
      (λ is. absurd (no_holder (is_registered all j) (j == i) other is)))

  action_holds : (action : OutAction) (type : Option ReservationType) (list : OutList)
      → ends_for_others action ≡ false → is_registered all i ≡ true → (j == i) ≡ false
      → EffectIs H (action_outcome rules (alone_in all kind i before) j action type list)
  action_holds Register type list mild here other =
      choice (EffectIs H) list.spec_i_pt _ _ (λ _. (together_holds list here).first)
      (λ _. (register_holds list here other).first)
  action_holds Reserve type list mild here other =
      typed H type _ (λ new. (reserve_holds new here).first)
  action_holds Release type list mild here other =
      releasing H (alone_in all kind i before) j type (record { here = here; reservation = refl })
      (λ new. release_holds new here other)
  action_holds RegisterAndIgnoreExistingKey type list mild here other =
      (register_holds list here other).first
  action_holds RegisterAndMove type list mild here other = (move_holds list other).first
  action_holds Clear type list mild here other = absurd (false≢true (sym mild))
  action_holds Preempt type list mild here other = absurd (false≢true (sym mild))
  action_holds PreemptAndAbort type list mild here other = absurd (false≢true (sym mild))

  pub outcome_holds : (action : OutAction) (scope_type : ℕ) (list : OutList)
      → ends_for_others action ≡ false → is_registered all i ≡ true → (j == i) ≡ false
      → EffectIs H (outcome rules (alone_in all kind i before) j action scope_type list)
  outcome_holds action scope_type list mild here other =
      if-accepted H rules (alone_in all kind i before) j action scope_type list
      (λ _. action_holds action (type_of scope_type) list mild here other)
