-- Each service action of PERSISTENT RESERVE OUT leaves registrations and reservation consistent.
use Rattle.std.proofs.Common.{◌≡◌, ℕ, Bool, true, false, not, ◌||◌, ap}
use Rattle.std.proofs.Common.{List, ◌∷◌, Option, Some, None, Ok, Err, refl}
use Rattle.std.proofs.Common.{arith}
use Rattle.std.specs.Prelude.{is_some, unwrap_or}
use Rattle.std.proofs.lemmas.Bool.{and_parts, not-false, not-true, or_left}
use Rattle.std.proofs.lemmas.Bool.Decides.{nat_tests}
use Rattle.sg_units.specs.ReserveOut.{IsConsistentChange, Outcome, accepts_key, action_outcome}
use Rattle.sg_units.specs.ReserveOut.{outcome}
use Rattle.sg_units.specs.ReserveOut.{move_cases, moved, moved_to, preempt_cases, register_cases}
use Rattle.sg_units.specs.ReserveOut.{release_cases}
use Rattle.sg_units.specs.ReserveOut.{has_one_holder, with_moved}
use Rattle.sg_units.specs.ReserveOut.{register_together_cases, registered_together}
use Rattle.sg_units.specs.ReserveOut.{registration_by, reserve_cases, state_after}
use Rattle.sg_units.specs.Registrations.{is_of, is_registered}
use Rattle.sg_units.specs.Registrations.{is_under}
use Rattle.sg_units.specs.ReservationType.{is_all_registrants, type_of}
use Rattle.sg_units.specs.Reservations.{AreConsistent, IsConsistent, is_holder, names_holder}
use Rattle.sg_units.specs.Reservations.{names_holder_if_any}
use Rattle.sg_units.proofs.OutcomeLemmas.{EffectIs, FirstIs, and_false, case_or, choice}
use Rattle.sg_units.proofs.OutcomeLemmas.{if-accepted, effective}
use Rattle.sg_units.proofs.OutcomeLemmas.{last_case, refused, releasing, taking, typed}
use Rattle.sg_wire.specs.declared.command.out_action.OutAction.{OutAction}
use Rattle.sg_wire.specs.declared.command.out_action.OutAction.TheVariants.{Register, Reserve}
use Rattle.sg_wire.specs.declared.command.out_action.OutAction.TheVariants.{Release, Clear, Preempt}
use Rattle.sg_wire.specs.declared.command.out_action.OutAction.TheVariants.{PreemptAndAbort}
use Rattle.sg_wire.specs.declared.command.out_action.OutAction.TheVariants.{RegisterAndIgnoreExistingKey}
use Rattle.sg_wire.specs.declared.command.out_action.OutAction.TheVariants.{RegisterAndMove}
use Rattle.sg_wire.specs.declared.out_list.OutList.{OutList}
use Rattle.sg_wire.specs.declared.profile.Rules.{Rules}
use Rattle.sg_units.specs.declared.registrations.Registration.{Registration}
use Rattle.sg_units.specs.declared.reservation.Reservation.{Reservation}
use Rattle.sg_units.specs.declared.reservation_state.ReservationState.{ReservationState}
use Rattle.sg_units.specs.declared.types.ReservationType.{ReservationType}
use Rattle.sg_units.proofs.ConsistencyLemmas.{consistent-filter, consistent-held, consistent-none}
use Rattle.sg_units.proofs.ConsistencyLemmas.{consistent-push, consistent-replaced, consistent-within}
use Rattle.sg_units.proofs.ConsistencyLemmas.{has_holder-taken, held-while_held, is_registered-filter}
use Rattle.sg_units.proofs.ConsistencyLemmas.{is_registered-under, named-taken, named-while_held, nearly}
use Rattle.sg_units.proofs.ConsistencyLemmas.{nearly-each}
use Rattle.sg_units.proofs.MoveLemmas.{nearly-moved, registered-moved}

consistent-register : (rules : Rules) (state : ReservationState) (i : ℕ) (list : OutList) → IsConsistent state
    → FirstIs (EffectIs IsConsistentChange) (register_cases rules state i list)
unfolding register_cases
consistent-register rules state i list h =
    let all = state.registrations in
    let held = state.reservation in
    let own = registration_by list i in
    let others = λ (r : Registration). not (is_of i r) in
    case_or (EffectIs IsConsistentChange) _ _ (λ _. effective IsConsistentChange _ h)
    (λ zero. case_or (EffectIs IsConsistentChange) _ _ (λ _. refused IsConsistentChange _)
    (λ full. case_or (EffectIs IsConsistentChange) _ _
    (λ new. effective IsConsistentChange _
    (consistent-push rules all held own (not-true _ new) (and_false _ _ new full) (and_false _ _ new zero) h))
    (λ _. case_or (EffectIs IsConsistentChange) _ _
    (λ other. effective IsConsistentChange _ (consistent-replaced all held own (not-true _ other) h))
    (λ _. last_case (EffectIs IsConsistentChange) _ _ refl
    (effective IsConsistentChange _
    (consistent-filter others all held _ h (held-while_held held _)
    (named-while_held held _ h.holder)))))))

-- a reservation that moves has one holder, as before
one-named : (all_registrants : Bool) (holder : Option ℕ) → names_holder all_registrants holder ≡ true
    → is_some holder ≡ true → all_registrants ≡ false
one-named true None h one = cc
one-named true (Some i) h one = cc
one-named false holder h one = refl

consistent-moved : (rs : List Registration) (held : Option Reservation) (target : ℕ)
    → is_registered rs target ≡ true → names_holder_if_any held ≡ true → has_one_holder held ≡ true
    → AreConsistent rs None → AreConsistent rs (moved held target)
consistent-moved rs None target here named one h = h
consistent-moved rs (Some reservation) target here named one h =
    consistent-held rs None _ h here
    (ap (λ b. names_holder b (Some target))
    (one-named (is_all_registrants reservation.kind) reservation.holder named one))

consistent-together : (state : ReservationState) (i : ℕ) (list : OutList) → IsConsistent state
    → FirstIs (EffectIs IsConsistentChange) (register_together_cases state i list)
unfolding register_together_cases registered_together
consistent-together state i list h =
    let all = state.registrations in
    let held = state.reservation in
    let together = registered_together all i list in
    case_or (EffectIs IsConsistentChange) _ _ (λ _. effective IsConsistentChange _ h)
    (λ some. case_or (EffectIs IsConsistentChange) _ _ (λ _. refused IsConsistentChange _)
    (λ new. case_or (EffectIs IsConsistentChange) _ _ (λ _. refused IsConsistentChange _)
    (λ _. case_or (EffectIs IsConsistentChange) _ _ (λ _. refused IsConsistentChange _)
    (λ room. last_case (EffectIs IsConsistentChange) _ _ refl
    (effective IsConsistentChange _
    (consistent-within together held
    (nearly-each held list (Some i ∷ list.others) all
    (and_false _ _ (ap not new) some) (nearly all held h))
    (grind (arith, nat_tests))))))))

-- the reservation moves to an initiator that is registered
consistent-move : (state : ReservationState) (i : ℕ) (list : OutList) → IsConsistent state
    → FirstIs (EffectIs IsConsistentChange) (move_cases state i list)
unfolding move_cases
consistent-move state i list h =
    let all = state.registrations in
    let target = unwrap_or (moved_to list.others) i in
    let rest = with_moved all i target list in
    case_or (EffectIs IsConsistentChange) _ _ (λ _. refused IsConsistentChange _)
    (λ _. case_or (EffectIs IsConsistentChange) _ _ (λ _. refused IsConsistentChange _)
    (λ held. case_or (EffectIs IsConsistentChange) _ _ (λ _. refused IsConsistentChange _)
    (λ some. case_or (EffectIs IsConsistentChange) _ _ (λ _. refused IsConsistentChange _)
    (λ _. case_or (EffectIs IsConsistentChange) _ _ (λ _. refused IsConsistentChange _)
    (λ _. case_or (EffectIs IsConsistentChange) _ _ (λ _. refused IsConsistentChange _)
    (λ _. case_or (EffectIs IsConsistentChange) _ _ (λ _. refused IsConsistentChange _)
    (λ room. last_case (EffectIs IsConsistentChange) _ _ refl
    (effective IsConsistentChange _
    (consistent-moved rest state.reservation target (registered-moved all i target list) h.holder
    (and_parts (has_one_holder state.reservation) (is_holder state i) (not-false _ held)).0
    (consistent-within rest None (nearly-moved state i target list some h)
    (grind (arith, nat_tests))))))))))))

consistent-reserve : (state : ReservationState) (i : ℕ) (type : ReservationType)
    → is_registered state.registrations i ≡ true → IsConsistent state
    → FirstIs (EffectIs IsConsistentChange) (reserve_cases state i type)
unfolding reserve_cases
consistent-reserve state i type here h =
    let all = state.registrations in
    case_or (EffectIs IsConsistentChange) _ _
    (λ _. effective IsConsistentChange _
    (consistent-held all state.reservation _ h (has_holder-taken type all i here)
    (named-taken type i)))
    (λ _. case_or (EffectIs IsConsistentChange) _ _ (λ _. effective IsConsistentChange _ h)
    (λ _. last_case (EffectIs IsConsistentChange) _ _ refl (refused IsConsistentChange _)))

consistent-release : (state : ReservationState) (i : ℕ) (type : ReservationType)
    → IsConsistent state → FirstIs (EffectIs IsConsistentChange) (release_cases state i type)
unfolding release_cases
consistent-release state i type h =
    let all = state.registrations in
    case_or (EffectIs IsConsistentChange) _ _ (λ _. effective IsConsistentChange _ h)
    (λ _. case_or (EffectIs IsConsistentChange) _ _ (λ _. refused IsConsistentChange _)
    (λ _. last_case (EffectIs IsConsistentChange) _ _ refl
    (effective IsConsistentChange _ (consistent-held all state.reservation None h refl refl))))

consistent-preempt : (rules : Rules) (state : ReservationState) (i : ℕ) (type : Option ReservationType)
    (sark : ℕ) → is_registered state.registrations i ≡ true → IsConsistent state
    → FirstIs (EffectIs IsConsistentChange) (preempt_cases rules state i type sark)
unfolding preempt_cases
consistent-preempt rules state i type sark here h =
    let all = state.registrations in
    let held = state.reservation in
    let others = λ (r : Registration). not (is_under sark r) in
    let stay = λ (r : Registration). is_of i r || not (is_under sark r) in
    let stays =
    is_registered-filter stay i (λ r e. or_left (is_of i r) (not (is_under sark r)) e) all here in
    let alone = is_registered-filter (is_of i) i (λ r e. e) all here in
    case_or (EffectIs IsConsistentChange) _ _ (λ _. refused IsConsistentChange _)
    (λ _. case_or (EffectIs IsConsistentChange) _ _ (λ _. refused IsConsistentChange _)
    (λ _. case_or (EffectIs IsConsistentChange) _ _
    (λ _. taking IsConsistentChange held i type _
    (λ type. effective IsConsistentChange _
    (consistent-filter stay all held _ h (has_holder-taken type _ i stays) (named-taken type i))))
    (λ _. case_or (EffectIs IsConsistentChange) _ _
    (λ _. taking IsConsistentChange held i type _
    (λ type. effective IsConsistentChange _
    (consistent-filter (is_of i) all held _ h (has_holder-taken type _ i alone)
    (named-taken type i))))
    (λ _. case_or (EffectIs IsConsistentChange) _ _ (λ _. refused IsConsistentChange _)
    (λ _. last_case (EffectIs IsConsistentChange) _ _ refl
    (effective IsConsistentChange _
    (consistent-filter others all held _ h (held-while_held held _)
    (named-while_held held _ h.holder))))))))

-- a caller whose key is accepted is registered, unless it registers
consistent-action : (rules : Rules) (state : ReservationState) (i : ℕ) (action : OutAction)
    (type : Option ReservationType) (list : OutList)
    → accepts_key state.registrations i action list.reservation_key ≡ true → IsConsistent state
    → EffectIs IsConsistentChange (action_outcome rules state i action type list)
consistent-action rules state i Register type list a h =
    choice (EffectIs IsConsistentChange) list.spec_i_pt _ _
    (λ _. (consistent-together state i list h).first) (λ _. (consistent-register rules state i list h).first)
consistent-action rules state i Reserve type list a h =
    let here = is_registered-under state.registrations i list.reservation_key a in
    typed IsConsistentChange type _ (λ type. (consistent-reserve state i type here h).first)
consistent-action rules state i Release type list a h =
    releasing IsConsistentChange state i type h (λ type. consistent-release state i type h)
consistent-action rules state i Clear type list a h =
    effective IsConsistentChange _ consistent-none
consistent-action rules state i Preempt type list a h =
    let here = is_registered-under state.registrations i list.reservation_key a in
    (consistent-preempt rules state i type list.service_action_key here h).first
consistent-action rules state i PreemptAndAbort type list a h =
    let here = is_registered-under state.registrations i list.reservation_key a in
    (consistent-preempt rules state i type list.service_action_key here h).first
consistent-action rules state i RegisterAndIgnoreExistingKey type list a h =
    (consistent-register rules state i list h).first
consistent-action rules state i RegisterAndMove type list a h = (consistent-move state i list h).first

pub consistent-outcome : (rules : Rules) (state : ReservationState) (i : ℕ) (action : OutAction)
    (scope_type : ℕ) (list : OutList) → IsConsistent state
    → EffectIs IsConsistentChange (outcome rules state i action scope_type list)
consistent-outcome rules state i action scope_type list h =
    if-accepted IsConsistentChange rules state i action scope_type list
    (λ accepted. consistent-action rules state i action (type_of scope_type) list accepted h)

pub consistent-state_after : (state : ReservationState) (o : Outcome) → IsConsistent state
    → EffectIs IsConsistentChange o → IsConsistent (state_after state o)
consistent-state_after state (Ok change) h k = k.shown change refl
consistent-state_after state (Err fault) h k = h
