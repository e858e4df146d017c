-- PREEMPT and PREEMPT AND ABORT remove the registrations of others under their key, leave a
-- reservation held, and keep their sender.
use Rattle.std.proofs.Common.{◌≡◌, ◌==◌, ℕ, Bool, true, false, cond, not, ◌&&◌, ◌||◌, List}
use Rattle.std.proofs.Common.{[], ◌∷◌, filter, Option, Some, None, Result, Ok, Err}
use Rattle.std.proofs.Common.{is_some, refl, sym, ap, ◌∙◌, subst, arith}
use Rattle.std.specs.Option.{option_map, option_map_or}
use Rattle.std.specs.Result.{result_map_both}
use Rattle.std.proofs.lemmas.Bool.{false_from_ne_true, or_left}
use Rattle.std.proofs.lemmas.Bool.{false≢true, ne_eqb, not_from_true, or_from, or_right}
use Rattle.std.proofs.lemmas.Bool.Decides.{nat_tests}
use Rattle.sg_wire.specs.FirstBytes.{first_bytes}
use Rattle.sg_wire.specs.CdbDecoding.{command_of}
use Rattle.sg_wire.specs.declared.command.CdbFault.{CdbFault}
use Rattle.sg_wire.specs.declared.command.Command.{Command}
use Rattle.sg_wire.specs.declared.command.Command.TheVariants.{PersistentReserveOut}
use Rattle.sg_wire.specs.declared.command.out_action.OutAction.{OutAction}
use Rattle.sg_wire.specs.declared.command.out_action.OutAction.TheVariants.{Preempt, PreemptAndAbort}
use Rattle.sg_wire.specs.OutList.{list_of as out_list_of}
use Rattle.sg_units.specs.Laws.{OneKeyEach}
use Rattle.sg_units.specs.Registrations.{is_of, is_registered, is_registered_under, is_under}
use Rattle.sg_units.specs.Registrations.{key_of, without_key}
use Rattle.sg_units.specs.Reservations.{IsConsistent, has_holder, is_held_if_any, while_held}
use Rattle.sg_units.specs.ReservationType.{type_of}
use Rattle.sg_units.specs.ReserveOut.{Outcome, accepts_key, action_outcome, outcome, preempt_cases}
use Rattle.sg_wire.specs.declared.out_list.OutList.{OutList}
use Rattle.sg_wire.specs.declared.profile.Rules.{Rules}
use Rattle.sg_units.specs.declared.registrations.Registration.{Registration}
use Rattle.sg_units.specs.declared.reservation.Reservation.{Reservation}
use Rattle.sg_units.specs.declared.reservation_change.ReservationChange.{ReservationChange}
use Rattle.sg_units.specs.declared.reservation_state.ReservationState.{ReservationState}
use Rattle.sg_units.specs.declared.types.ReservationType.{ReservationType}
use Rattle.sg_units.proofs.ConsistencyLemmas.{is_registered-under}
use Rattle.sg_fencing.proofs.KeyLemmas.{is_registered-key_of, key_of-filter}
use Rattle.sg_fencing.proofs.KeyLemmas.{key_of-without_key, only-key_of, stays_registered}
use Rattle.sg_units.proofs.OutcomeLemmas.{EffectIs, FirstIs, case_or, if-accepted, effective, last_case}
use Rattle.sg_units.proofs.OutcomeLemmas.{refused, taking}
use Rattle.sg_target.specs.Demands.{demands}
use Rattle.sg_target.specs.Effect.{Effect}
use Rattle.sg_target.specs.Refusal.{when_sound}
use Rattle.sg_target.specs.ReservationCommands.{changing_reservations, out_refusal}
use Rattle.sg_target.specs.ReservationCommands.{has_list_length, reservation_change}
use Rattle.sg_target.specs.Semantics.{effect_of}
use Rattle.sg_target.specs.State.{State, config_of}
use Rattle.sg_target.specs.Step.{Step, outcome as step_outcome, step}
use Rattle.sg_target.specs.declared.operation.Operation.{Operation}
use Rattle.sg_target.specs.declared.operation.Operation.TheVariants.{ChangeReservations}
use Rattle.sg_target.specs.declared.refusal.Reason.TheVariants.{ParameterListLengthError}
use Rattle.sg_target.specs.declared.refusal.Refusal.{Refusal}
use Rattle.sg_target.specs.declared.refusal.Refusal.TheVariants.{CheckCondition}
use Rattle.sg_target.specs.declared.reply.Status.TheVariants.{Good}
use Rattle.sg_target.proofs.LiftLemmas.{lifted, not_good, outcome-by}
use Rattle.sg_fencing.proofs.OperationLemmas.{listed}
use Rattle.sg_fencing.specs.Registrants.{rules_for}
use Rattle.sg_fencing.specs.Registrants.{PreemptedAreUnregistered, PreemptionKeepsAReservation}
use Rattle.sg_fencing.specs.Registrants.{PreemptingSendersStayRegistered}
use Rattle.sg_fencing.specs.Registrants.{is_preempting, preempted_key}
use Rattle.sg_fencing.proofs.MovedLemmas.{none-kept}

-- ---- The one registration of an initiator

under-it : (r : Registration) (key : ℕ) → r.key ≡ key → is_under key r ≡ true
under-it r key h = grind (arith, nat_tests)

module _ (keep : Registration → Bool) (i key : ℕ)
    (drops : (r : Registration) → is_of i r ≡ true → is_under key r ≡ true → keep r ≡ false) where
  removed-first : (r : Registration) (rs : List Registration) (b : Bool) → is_of i r ≡ b
      → (b ≡ true → r.key ≡ key) → is_registered (filter keep rs) i ≡ false
      → is_registered (cond (keep r) (r ∷ filter keep rs) (filter keep rs)) i ≡ false
  removed-first r rs true is own rest =
      ap (λ k. is_registered (cond k (r ∷ filter keep rs) (filter keep rs)) i)
      (drops r is (under-it r key (own refl)))
      ∙ rest
  removed-first r rs false is own rest =
      none-kept (keep r) r (filter keep rs) i false (ap (λ b. b || false) is) (λ _. rest)

  under-own : (r : Registration) (rs : List Registration) → is_of i r ≡ true
      → is_registered_under (r ∷ rs) i r.key ≡ true
  under-own r rs is = grind (arith, nat_tests)

  -- it is removed if i is registered only under the key
  removed : (rs : List Registration)
      → ((k : ℕ) → is_registered_under rs i k ≡ true → key ≡ k)
      → is_registered (filter keep rs) i ≡ false
  removed [] only = refl
  removed (r ∷ rs) only =
      removed-first r rs (is_of i r) refl (λ is. sym (only r.key (under-own r rs is)))
      (removed rs (λ k h. only k (or_right (is_of i r && is_under k r) _ h)))

-- ---- The outcome

not-of : (r : Registration) (i j : ℕ) → (j == i) ≡ false → is_of i r ≡ true → is_of j r ≡ false
not-of r i j other is = grind (arith, nat_tests)

module _ (rules : Rules) (state : ReservationState) (i j : ℕ) (other : (j == i) ≡ false)
    (list : OutList)
    (only : (key : ℕ) → is_registered_under state.registrations i key ≡ true
    → list.service_action_key ≡ key) where
  abbrev key : ℕ
  key = list.service_action_key

  abbrev pub IsRemoved : ReservationChange → Type 0
  IsRemoved change = is_registered change.registrations i ≡ false

  gone : (keep : Registration → Bool)
      → ((r : Registration) → is_of i r ≡ true → is_under key r ≡ true → keep r ≡ false)
      → is_registered (filter keep state.registrations) i ≡ false
  gone keep drops = removed keep i key drops state.registrations only

  preempt-removes : (type : Option ReservationType)
      → FirstIs (EffectIs IsRemoved) (preempt_cases rules state j type key)
  unfolding preempt_cases
  preempt-removes type =
      let unless_own =
      gone (λ r. is_of j r || not (is_under key r))
      (λ r is under. or_from (is_of j r) (not (is_under key r)) (not-of r i j other is)
      (not_from_true (is_under key r) under)) in
      let own = gone (is_of j) (λ r is under. not-of r i j other is) in
      let under_key = gone (λ r. not (is_under key r)) (λ r is under. ap not under) in
      case_or (EffectIs IsRemoved) _ _ (λ _. refused IsRemoved _)
      (λ _. case_or (EffectIs IsRemoved) _ _ (λ _. refused IsRemoved _)
      (λ _. case_or (EffectIs IsRemoved) _ _
      (λ _. taking IsRemoved state.reservation j type _ (λ type. effective IsRemoved _ unless_own))
      (λ _. case_or (EffectIs IsRemoved) _ _
      (λ _. taking IsRemoved state.reservation j type _ (λ type. effective IsRemoved _ own))
      (λ _. case_or (EffectIs IsRemoved) _ _ (λ _. refused IsRemoved _)
      (λ _. last_case (EffectIs IsRemoved) _ _ refl (effective IsRemoved _ under_key))))))

  action-removes : (action : OutAction) (type : Option ReservationType)
      → is_preempting action ≡ true → EffectIs IsRemoved (action_outcome rules state j action type list)
  action-removes Preempt type h = (preempt-removes type).first
  action-removes PreemptAndAbort type h = (preempt-removes type).first
  action-removes _ type h = absurd (false≢true h)

  outcome-removes : (action : OutAction) (scope_type : ℕ) → is_preempting action ≡ true
      → EffectIs IsRemoved (outcome rules state j action scope_type list)
  outcome-removes action scope_type h =
      if-accepted IsRemoved rules state j action scope_type list
      (λ _. action-removes action (type_of scope_type) h)

-- ---- The reservation that somebody is left to hold

some-if : (b : Bool) (held : Reservation) → b ≡ true → is_some (cond b (Some held) None) ≡ true
some-if true held h = refl
some-if false held h = absurd (false≢true h)

any-holds : (kind : ReservationType) (rs : List Registration) (r : ℕ) → is_registered rs r ≡ true
    → has_holder (record { kind = kind; holder = None }) rs ≡ true
any-holds kind [] r h = absurd (false≢true h)
any-holds kind (first ∷ rs) r h = refl

-- a holder that is not registered under the key stays registered
still-held : (kind : ReservationType) (holder : Option ℕ) (all : List Registration) (sark r : ℕ)
    → has_holder (record { kind = kind; holder = holder }) all ≡ true
    → option_map_or (λ holder. is_registered_under all holder sark) holder false ≡ false
    → is_registered (without_key all sark) r ≡ true
    → has_holder (record { kind = kind; holder = holder }) (without_key all sark) ≡ true
still-held kind None all sark r held absent here = any-holds kind (without_key all sark) r here
still-held kind (Some holder) all sark r held absent here =
    stays_registered all (without_key all sark) holder (key_of-without_key all holder sark absent) held

held-while : (reservation : Option Reservation) (all : List Registration) (sark r : ℕ)
    → is_some reservation ≡ true → is_held_if_any reservation all ≡ true
    → option_map_or
    (λ (r : Reservation). option_map_or (λ holder. is_registered_under all holder sark) r.holder false)
    reservation false ≡ false
    → is_registered (without_key all sark) r ≡ true
    → is_some (while_held reservation (without_key all sark)) ≡ true
held-while None all sark r some held absent here = some
held-while (Some reservation) all sark r some held absent here =
    some-if (has_holder reservation (without_key all sark)) reservation
    (still-held reservation.kind reservation.holder all sark r held absent here)

module _ (rules : Rules) (state : ReservationState) (j r : ℕ)
    (some : is_some state.reservation ≡ true)
    (held : is_held_if_any state.reservation state.registrations ≡ true) where
  abbrev pub IsHeldStill : ReservationChange → Type 0
  IsHeldStill change =
      is_registered change.registrations r ≡ true → is_some change.reservation ≡ true

  preempt-holds : (type : Option ReservationType) (sark : ℕ)
      → FirstIs (EffectIs IsHeldStill) (preempt_cases rules state j type sark)
  unfolding preempt_cases
  preempt-holds type sark =
      case_or (EffectIs IsHeldStill) _ _ (λ _. refused IsHeldStill _)
      (λ _. case_or (EffectIs IsHeldStill) _ _ (λ _. refused IsHeldStill _)
      (λ _. case_or (EffectIs IsHeldStill) _ _
      (λ _. taking IsHeldStill state.reservation j type _
      (λ type. effective IsHeldStill _ (λ here. refl)))
      (λ absent. case_or (EffectIs IsHeldStill) _ _
      (λ _. taking IsHeldStill state.reservation j type _
      (λ type. effective IsHeldStill _ (λ here. refl)))
      (λ _. case_or (EffectIs IsHeldStill) _ _ (λ _. refused IsHeldStill _)
      (λ _. last_case (EffectIs IsHeldStill) _ _ refl
      (effective IsHeldStill _
      (held-while state.reservation state.registrations sark r some held absent)))))))

  action-holds : (action : OutAction) (type : Option ReservationType) (list : OutList)
      → is_preempting action ≡ true
      → EffectIs IsHeldStill (action_outcome rules state j action type list)
  action-holds Preempt type list h = (preempt-holds type list.service_action_key).first
  action-holds PreemptAndAbort type list h = (preempt-holds type list.service_action_key).first
  action-holds _ type list h = absurd (false≢true h)

  outcome-holds : (action : OutAction) (scope_type : ℕ) (list : OutList)
      → is_preempting action ≡ true
      → EffectIs IsHeldStill (outcome rules state j action scope_type list)
  outcome-holds action scope_type list h =
      if-accepted IsHeldStill rules state j action scope_type list
      (λ _. action-holds action (type_of scope_type) list h)

-- ---- The sender, if it is registered under another key

module _ (rules : Rules) (state : ReservationState) (j : ℕ) (list : OutList)
    (absent : is_registered_under state.registrations j list.service_action_key ≡ false) where
  abbrev all : List Registration
  all = state.registrations

  abbrev pub IsHere : ReservationChange → Type 0
  IsHere change = is_registered change.registrations j ≡ true

  kept : (keep : Registration → Bool) → ((r : Registration) → is_of j r ≡ true → keep r ≡ true)
      → is_registered all j ≡ true → is_registered (filter keep all) j ≡ true
  kept keep stays here = stays_registered all (filter keep all) j (key_of-filter keep j stays all) here

  preempt-stays : (type : Option ReservationType) → is_registered all j ≡ true
      → FirstIs (EffectIs IsHere) (preempt_cases rules state j type list.service_action_key)
  unfolding preempt_cases
  preempt-stays type here =
      let sark = list.service_action_key in
      case_or (EffectIs IsHere) _ _ (λ _. refused IsHere _)
      (λ _. case_or (EffectIs IsHere) _ _ (λ _. refused IsHere _)
      (λ _. case_or (EffectIs IsHere) _ _
      (λ _. taking IsHere state.reservation j type _
      (λ type. effective IsHere _
      (kept (λ r. is_of j r || not (is_under sark r))
      (λ r e. or_left (is_of j r) (not (is_under sark r)) e) here)))
      (λ _. case_or (EffectIs IsHere) _ _
      (λ _. taking IsHere state.reservation j type _
      (λ type. effective IsHere _ (kept (is_of j) (λ r e. e) here)))
      (λ _. case_or (EffectIs IsHere) _ _ (λ _. refused IsHere _)
      (λ _. last_case (EffectIs IsHere) _ _ refl
      (effective IsHere _
      (stays_registered all (without_key all sark) j (key_of-without_key all j sark absent) here)))))))

  action-stays : (action : OutAction) (type : Option ReservationType)
      → is_preempting action ≡ true
      → accepts_key all j action list.reservation_key ≡ true
      → EffectIs IsHere (action_outcome rules state j action type list)
  action-stays Preempt type h accepted =
      (preempt-stays type (is_registered-under all j list.reservation_key accepted)).first
  action-stays PreemptAndAbort type h accepted =
      (preempt-stays type (is_registered-under all j list.reservation_key accepted)).first
  action-stays _ type h accepted = absurd (false≢true h)

  outcome-stays : (action : OutAction) (scope_type : ℕ) → is_preempting action ≡ true
      → EffectIs IsHere (outcome rules state j action scope_type list)
  outcome-stays action scope_type h =
      if-accepted IsHere rules state j action scope_type list
      (λ accepted. action-stays action (type_of scope_type) h accepted)

-- ---- The command

-- what is true of the change of each preemption is true of its step
module _ (state : State) (j : ℕ) (P : List Registration → Option Reservation → Type 0) where
  abbrev IsLeft : State → Type 0
  IsLeft after = P after.reservations.registrations after.reservations.reservation

  abbrev EffectLeaves : Result Effect Refusal → Type 0
  EffectLeaves (Ok effect) = IsLeft effect.after
  EffectLeaves (Err refusal) = Unit {0}

  abbrev Changes : ReservationChange → Type 0
  Changes change = P change.registrations change.reservation

  where-good : (effect : Result Effect Refusal) → EffectLeaves effect
      → (step_outcome state j effect).answer.status ≡ Good → IsLeft (step_outcome state j effect).state
  where-good (Ok effect) h good =
      outcome-by state j (λ (done : Step). done.answer.status ≡ Good → IsLeft done.state) effect
      (λ refusal good. absurd (not_good state j refusal good)) (λ none good. h) good
  where-good (Err refusal) h good = absurd (not_good state j refusal good)

  changing-leaves : (o : Outcome) → EffectIs Changes o
      → EffectLeaves (when_sound (result_map_both (λ change. change) out_refusal o)
      (changing_reservations state j))
  changing-leaves (Ok change) k = k.shown change refl
  changing-leaves (Err fault) k = tt

  reserving-leaves : (action : OutAction) (scope_type : ℕ) (list : OutList)
      → EffectIs Changes (outcome (rules_for state) state.reservations j action scope_type list)
      → EffectLeaves (effect_of state j (ChangeReservations action scope_type list))
  unfolding reservation_change
  reserving-leaves action scope_type list h =
      changing-leaves (outcome (rules_for state) state.reservations j action scope_type list) h

  key-sent : (preempts : Bool) (list : OutList) (key : ℕ)
      → option_map (λ (l : OutList). l.service_action_key) (cond preempts (Some list) None) ≡ Some key
      → (preempts ≡ true) × (list.service_action_key ≡ key)
  key-sent true list key h = (refl, cc)
  key-sent false list key h = cc

  module _ (key : ℕ)
      (leaves : (action : OutAction) (scope_type : ℕ) (list : OutList) → is_preempting action ≡ true
      → list.service_action_key ≡ key
      → EffectIs Changes (outcome (rules_for state) state.reservations j action scope_type list)) where
    command-leaves : (command : Command) (data_out : List ℕ) (operation : Operation)
        → (demands (config_of state) command data_out).operation ≡ Ok operation
        → preempted_key (Ok command) data_out ≡ Some key
        → EffectLeaves (effect_of state j operation)
    command-leaves (PersistentReserveOut c) data_out operation e h =
        let list = first_bytes c.list_length data_out in
        let parts = key-sent (is_preempting c.action) (out_list_of c.action list) key h in
        subst (λ (o : Operation). EffectLeaves (effect_of state j o))
        (listed c.action c.scope_type (has_list_length (rules_for state) c.action list)
        (out_list_of c.action list) (CheckCondition ParameterListLengthError) operation e)
        (reserving-leaves c.action c.scope_type (out_list_of c.action list)
        (leaves c.action c.scope_type (out_list_of c.action list) parts.0 parts.1))
    command-leaves _ data_out operation e h = cc

    preempt-leaves : (cdb data_out : List ℕ) → preempted_key (command_of cdb) data_out ≡ Some key
        → (step state j cdb data_out).answer.status ≡ Good → IsLeft (step state j cdb data_out).state
    preempt-leaves cdb data_out h =
        lifted state j cdb data_out (λ (done : Step). done.answer.status ≡ Good → IsLeft done.state)
        (λ refusal good. absurd (not_good state j refusal good))
        (λ operation k. where-good (effect_of state j operation)
        (command-leaves k.command data_out operation k.operation_is
        (sym (ap (λ (p : Result Command CdbFault). preempted_key p data_out) k.command_is) ∙ h)))

pub preempt-unregisters : OneKeyEach → PreemptedAreUnregistered
preempt-unregisters one state i j key cdb data_out w other is here =
    preempt-leaves state j (λ registrations reservation. is_registered registrations i ≡ false) key
    (λ action scope_type list h under.
    outcome-removes (rules_for state) state.reservations i j (ne_eqb j i other) list
    (only-key_of one state.reservations i list.service_action_key w.registered
    (here ∙ ap Some (sym under)))
    action scope_type h)
    cdb data_out is

pub preempt-keeps : PreemptionKeepsAReservation
preempt-keeps state j r key cdb data_out w some is good here =
    preempt-leaves state j
    (λ registrations reservation. is_registered registrations r ≡ true → is_some reservation ≡ true)
    key
    (λ action scope_type list h under.
    outcome-holds (rules_for state) state.reservations j r some w.registered.held action scope_type list h)
    cdb data_out is good here

-- an initiator is not registered under a key that is not its own
not-under : OneKeyEach → (state : ReservationState) (i key : ℕ) → IsConsistent state
    → (key_of state.registrations i ≡ Some key → ⊥) → (found : Option ℕ)
    → key_of state.registrations i ≡ found → is_registered_under state.registrations i key ≡ false
not-under one state i key w other (Some k) e =
    false_from_ne_true _
    (λ under. other (e ∙ ap Some (only-key_of one state i k w e key under)))
not-under one state i key w other None e =
    false_from_ne_true _
    (λ under. false≢true (
    sym (is_registered-key_of state.registrations i ∙ ap is_some e)
    ∙ is_registered-under state.registrations i key under))

pub sender-stays : OneKeyEach → PreemptingSendersStayRegistered
sender-stays one state j key cdb data_out w is other =
    preempt-leaves state j (λ registrations reservation. is_registered registrations j ≡ true) key
    (λ action scope_type list h under.
    outcome-stays (rules_for state) state.reservations j list
    (not-under one state.reservations j list.service_action_key w.registered
    (λ e. other (e ∙ ap Some under)) _ refl)
    action scope_type h)
    cdb data_out is
