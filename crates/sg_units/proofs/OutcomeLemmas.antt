-- A property of each change that PERSISTENT RESERVE OUT can make is shown case by case.
use Rattle.std.proofs.Common.{◌≡◌, ℕ, Bool, true, false, cond, not, ◌&&◌, List, ◌∷◌}
use Rattle.std.proofs.Common.{Option, Some, None, Ok, Err, IfOk, sym, ◌∙◌, subst}
use Rattle.std.proofs.lemmas.Bool.{cond_both, false≢true, not-false}
use Rattle.sg_wire.specs.OutList.{flags_at}
use Rattle.sg_wire.specs.declared.command.out_action.OutAction.{OutAction}
use Rattle.sg_wire.specs.declared.out_list.OutList.{OutList}
use Rattle.sg_wire.specs.declared.profile.Rules.{Rules}
use Rattle.sg_units.specs.ReservationType.{type_of}
use Rattle.sg_units.specs.ReserveOut.{Case, Outcome, accepts_key, action_outcome, first_case, outcome}
use Rattle.sg_units.specs.ReserveOut.{preempted, release_cases, release_outcome, unchanged, with_type}
use Rattle.sg_units.specs.Reservations.{is_holder}
use Rattle.sg_units.specs.UnsupportedFlags.{has_unsupported_flag}
use Rattle.sg_units.specs.declared.reservation_change.ReservationChange.{ReservationChange}
use Rattle.sg_units.specs.declared.out_fault.OutFault.{OutFault}
use Rattle.sg_units.specs.declared.out_fault.OutFault.TheVariants.{BadRelease, BadType, Conflict, Field}
use Rattle.sg_units.specs.declared.registrations.Registration.{Registration}
use Rattle.sg_units.specs.declared.reservation.Reservation.{Reservation}
use Rattle.sg_units.specs.declared.reservation_state.ReservationState.{ReservationState}
use Rattle.sg_units.specs.declared.types.ReservationType.{ReservationType}

-- The change of an outcome, if it has one, is P.
pub record EffectIs (P : ReservationChange → Type 0) (o : Outcome) : Type 0 where
  pub shown : (change : ReservationChange) → o ≡ Ok change → P change

pub refused : (P : ReservationChange → Type 0) (fault : OutFault) → EffectIs P (Err fault)
refused P fault = record { shown = λ change e. cc }

pub effective : (P : ReservationChange → Type 0) (change : ReservationChange) → P change
    → EffectIs P (Ok change)
effective P change h = record {
  shown =
      λ other e.
      let same : change ≡ other = cc in
      subst P same h;
}

pub if-ok : (P : ReservationChange → Type 0) (o p : Outcome) → o ≡ p → EffectIs P p → IfOk o P
if-ok P (Ok change) p same h = h.shown change (sym same)
if-ok P (Err fault) p same h = tt

pub taking : (P : ReservationChange → Type 0) (held : Option Reservation) (i : ℕ)
    (type : Option ReservationType) (rest : List Registration)
    → ((type : ReservationType) → EffectIs P (preempted held i (Some type) rest))
    → EffectIs P (preempted held i type rest)
taking P held i None rest h = refused P BadType
taking P held i (Some type) rest h = h type

pub typed : (P : ReservationChange → Type 0) (type : Option ReservationType) (f : ReservationType → Outcome)
    → ((type : ReservationType) → EffectIs P (f type)) → EffectIs P (with_type type f)
typed P None f h = refused P BadType
typed P (Some type) f h = h type

-- the outcome of the first case that applies is P
pub record FirstIs (P : Outcome → Type 0) (cases : List Case) : Type 0 where
  pub first : P (first_case cases)

pub choice : (P : Outcome → Type 0) (b : Bool) (x y : Outcome) → (b ≡ true → P x) → (b ≡ false → P y)
    → P (cond b x y)
choice P b x y f g = cond_both b x y P f g

pub case_or : (P : Outcome → Type 0) (case : Case) (cases : List Case)
    → (case.condition ≡ true → P case.outcome) → (case.condition ≡ false → FirstIs P cases)
    → FirstIs P (case ∷ cases)
case_or P case cases f g =
    record { first = choice P case.condition case.outcome (first_case cases) f (λ h. (g h).first) }

pub last_case : (P : Outcome → Type 0) (case : Case) (cases : List Case) → case.condition ≡ true
    → P case.outcome → FirstIs P (case ∷ cases)
last_case P case cases e h = case_or P case cases (λ _. h) (λ no. absurd (false≢true (sym no ∙ e)))

-- a RELEASE of no valid type changes nothing, and the cases of a valid one decide
pub releasing : (P : ReservationChange → Type 0) (state : ReservationState) (i : ℕ)
    (type : Option ReservationType) → P (unchanged state)
    → ((type : ReservationType) → FirstIs (EffectIs P) (release_cases state i type))
    → EffectIs P (release_outcome state i type)
releasing P state i None idle h =
    choice (EffectIs P) (is_holder state i) _ _ (λ _. refused P BadRelease) (λ _. effective P _ idle)
releasing P state i (Some type) idle h = (h type).first

-- a command is refused, or its flags are supported, its key is accepted and it has the outcome of its
-- service action
pub if-supported : (P : ReservationChange → Type 0) (rules : Rules) (state : ReservationState) (i : ℕ)
    (action : OutAction) (scope_type : ℕ) (list : OutList)
    → (has_unsupported_flag rules action list ≡ false
    → accepts_key state.registrations i action list.reservation_key ≡ true
    → EffectIs P (action_outcome rules state i action (type_of scope_type) list))
    → EffectIs P (outcome rules state i action scope_type list)
unfolding outcome
if-supported P rules state i action scope_type list h =
    let accepts = accepts_key state.registrations i action list.reservation_key in
    choice (EffectIs P) (has_unsupported_flag rules action list) _ _ (λ _. refused P (Field flags_at))
    (λ supported. choice (EffectIs P) (not accepts) _ _ (λ _. refused P Conflict)
    (λ yes. h supported (not-false accepts yes)))

pub if-accepted : (P : ReservationChange → Type 0) (rules : Rules) (state : ReservationState) (i : ℕ)
    (action : OutAction) (scope_type : ℕ) (list : OutList)
    → (accepts_key state.registrations i action list.reservation_key ≡ true
    → EffectIs P (action_outcome rules state i action (type_of scope_type) list))
    → EffectIs P (outcome rules state i action scope_type list)
if-accepted P rules state i action scope_type list h =
    if-supported P rules state i action scope_type list (λ _ accepted. h accepted)

pub and_false : (a b : Bool) → a ≡ true → (a && b) ≡ false → b ≡ false
and_false true b h k = k
and_false false b h k = absurd (false≢true h)
