-- Laws of the definitions, in the words of the standard.
use Rattle.std.specs.Prelude.{◌≡◌, ◌≢◌, ◌⊎◌, ◌<◌, ◌+◌, ◌%◌, ◌^◌, ℕ, ◌==◌, Bool, true, false}
use Rattle.std.specs.Prelude.{◌&&◌, ◌||◌, List, length, is_some, Option, Some, None, Ok, slice_get}
use Rattle.sg_wire.specs.declared.command.Class.{Class}
use Rattle.sg_wire.specs.declared.profile.Rules.{Rules}
use Rattle.sg_wire.specs.declared.command.out_action.OutAction.{OutAction}
use Rattle.sg_wire.specs.declared.command.out_action.OutAction.TheVariants.{Clear, Preempt}
use Rattle.sg_wire.specs.declared.command.out_action.OutAction.TheVariants.{PreemptAndAbort}
use Rattle.sg_wire.specs.declared.command.Class.TheVariants.{Reads, Writes}
use Rattle.sg_units.specs.Access.{allows}
use Rattle.sg_units.specs.Attentions.{ArePending, IsQueue, Pending, covers, is_pending, pending_for}
use Rattle.sg_units.specs.Attentions.{raised, with_condition, without_condition, without_oldest}
use Rattle.sg_units.specs.PowerOn.{power_on_pending, after_power_on}
use Rattle.sg_units.specs.Raised.{Conditions, raised_for_each}
use Rattle.sg_units.specs.ReserveOut.{IsConsistentChange, outcome, raised_for, state_after}
use Rattle.sg_units.specs.Registrations.{is_registered, is_registered_under}
use Rattle.sg_units.specs.ReservationType.{is_all_registrants, is_shared}
use Rattle.sg_units.specs.Reservations.{AreConsistent, IsConsistent, is_holder}
use Rattle.sg_units.specs.Restored.{are_consistent}
use Rattle.sg_units.specs.declared.reservation_change.ReservationChange.{ReservationChange}
use Rattle.sg_wire.specs.declared.out_list.OutList.{OutList}
use Rattle.sg_units.specs.declared.registrations.Registration.{Registration}
use Rattle.sg_units.specs.declared.reservation.Reservation.{Reservation}
use Rattle.sg_units.specs.declared.reservation_state.ReservationState.{ReservationState}
use Rattle.sg_units.specs.UnitAttention.{is_reset}
use Rattle.sg_units.specs.declared.unit_attention.UnitAttention.{UnitAttention}
use Rattle.std.specs.Prelude.{ℕ, ◌==◌, Bool, true, false}
use Rattle.sg_units.specs.declared.types.ReservationType.{ReservationType}
use Rattle.sg_units.specs.declared.types.ReservationType.TheVariants.{ExclusiveAccess}
use Rattle.sg_units.specs.declared.types.ReservationType.TheVariants.{ExclusiveAccessRegistrantsOnly}
use Rattle.sg_units.specs.declared.types.ReservationType.TheVariants.{ExclusiveAccessAllRegistrants}

-- Others may not read either: the exclusive access types.
abbrev pub is_exclusive_access : ReservationType → Bool
is_exclusive_access ExclusiveAccess = true
is_exclusive_access ExclusiveAccessRegistrantsOnly = true
is_exclusive_access ExclusiveAccessAllRegistrants = true
is_exclusive_access type = false

-- ---- Unit attention conditions

-- A condition that is established for one initiator is pending for no other.
abbrev pub NoConditionForAnother : Type 0
NoConditionForAnother =
    (pending : Pending) (initiator other : ℕ) (condition : UnitAttention)
    → other ≢ initiator
    → pending_for (raised pending initiator condition) other ≡ pending_for pending other

-- After the condition of a reset is established, the oldest condition covers it. So the next command
-- that reports a condition reports a reset, and one of the same or a higher precedence.
pub record ReportsFirst (queue : List UnitAttention) (condition : UnitAttention) : Type 0 where
  pub first : UnitAttention
  pub is_oldest : slice_get queue 0 ≡ Some first
  pub covers_it : covers first condition ≡ true

abbrev pub ResetsAreReportedFirst : Type 0
ResetsAreReportedFirst =
    (queue : List UnitAttention) (condition : UnitAttention) → IsQueue queue
    → is_reset condition ≡ true → ReportsFirst (with_condition queue condition) condition

-- A condition that is no reset's stays pending whatever is established.
abbrev pub OthersStayPending : Type 0
OthersStayPending =
    (queue : List UnitAttention) (condition other : UnitAttention) → is_reset other ≡ false
    → is_pending queue other ≡ true → is_pending (with_condition queue condition) other ≡ true

-- PERSISTENT RESERVE OUT establishes nothing for the initiator that sent it.
abbrev pub NothingRaisedForCaller : Type 0
NothingRaisedForCaller =
    (before : List Registration) (caller : ℕ) (change : ReservationChange)
    → raised_for before caller change caller ≡ None

-- ---- Registrations and holders

-- An initiator is registered under one key.
abbrev pub OneKeyEach : Type 0
OneKeyEach =
    (state : ReservationState) (initiator first second : ℕ) → IsConsistent state
    → is_registered_under state.registrations initiator first ≡ true
    → is_registered_under state.registrations initiator second ≡ true
    → first ≡ second

-- A reservation has one holder, which is registered.
pub record HasOneHolder (state : ReservationState) (holder : Option ℕ) : Type 0 where
  pub named : is_some holder ≡ true
  pub registered : (initiator : ℕ) → holder ≡ Some initiator
      → is_registered state.registrations initiator ≡ true
  pub alone : (initiator other : ℕ) → holder ≡ Some initiator
      → is_holder state other ≡ (other == initiator)

-- A reservation has one holder under every type that is not all registrants.
abbrev pub OneHolder : Type 0
OneHolder =
    (state : ReservationState) (reservation : Reservation) → IsConsistent state
    → state.reservation ≡ Some reservation → is_all_registrants reservation.kind ≡ false
    → HasOneHolder state reservation.holder

-- The holders of a reservation are the registrants, and there is at least one.
pub record IsHeldByAll (state : ReservationState) : Type 0 where
  pub holders : (initiator : ℕ)
      → is_holder state initiator ≡ is_registered state.registrations initiator
  pub at_least_one : 0 < length state.registrations

-- The registrants hold a reservation under an all registrants type.
abbrev pub EachRegistrantHolds : Type 0
EachRegistrantHolds =
    (state : ReservationState) (reservation : Reservation) → IsConsistent state
    → state.reservation ≡ Some reservation → is_all_registrants reservation.kind ≡ true
    → IsHeldByAll state

-- ---- Access

-- An initiator that does not hold or share a reservation is refused writing under every type, and
-- reading under the exclusive access types.
pub record IsRefused (state : ReservationState) (held : Reservation) (initiator : ℕ) : Type 0 where
  pub writes : allows state initiator Writes ≡ false
  pub reads : is_exclusive_access held.kind ≡ true → allows state initiator Reads ≡ false

abbrev pub OthersAreRefused : Type 0
OthersAreRefused =
    (state : ReservationState) (reservation : Reservation) (initiator : ℕ)
    → state.reservation ≡ Some reservation → is_holder state initiator ≡ false
    → (is_registered state.registrations initiator && is_shared reservation.kind) ≡ false
    → IsRefused state reservation initiator

-- A holder, and a registrant that shares a reservation, is refused nothing.
abbrev pub SharersAreAllowed : Type 0
SharersAreAllowed =
    (state : ReservationState) (reservation : Reservation) (initiator : ℕ) (class : Class)
    → state.reservation ≡ Some reservation
    → (is_holder state initiator
    || (is_registered state.registrations initiator && is_shared reservation.kind)) ≡ true
    → allows state initiator class ≡ true

-- ---- PRGENERATION

-- PRGENERATION is incremented, or it stays and no registration has changed.
pub record CountsChanges (before after : ReservationState) : Type 0 where
  pub by_one : (after.generation ≡ before.generation)
      ⊎ (after.generation ≡ (before.generation + 1) % 2 ^ 32)
  pub unchanged : after.generation ≡ before.generation
      → after.registrations ≡ before.registrations

abbrev pub GenerationCountsChanges : Type 0
GenerationCountsChanges =
    (rules : Rules) (state : ReservationState) (caller : ℕ) (action : OutAction) (scope_type : ℕ)
    (list : OutList)
    → state.generation < 2 ^ 32
    → CountsChanges state (state_after state (outcome rules state caller action scope_type list))

-- ---- The end of a reservation

-- The service actions that can end another initiator's reservation, if only that initiator holds
-- it. (If all registrants hold it, a RELEASE of any registrant ends it, too.)
abbrev pub ends_for_others : OutAction → Bool
ends_for_others Clear = true
ends_for_others Preempt = true
ends_for_others PreemptAndAbort = true
ends_for_others _ = false

-- ---- What stays true

-- If registrations and reservation are consistent, they are consistent after PERSISTENT RESERVE OUT
-- and after a power cycle.
pub record ReservationsStayConsistent : Type 0 where
  pub changed : (rules : Rules) (state : ReservationState) (initiator : ℕ) (action : OutAction)
      (scope_type : ℕ) (list : OutList) (change : ReservationChange) → IsConsistent state
      → outcome rules state initiator action scope_type list ≡ Ok change → IsConsistentChange change
  pub power_cycle : (state : ReservationState) → IsConsistent state → IsConsistent (after_power_on state)

-- The test of registrations and a reservation says whether they are consistent.
pub record ConsistencyIsTested : Type 0 where
  pub passes : (registrations : List Registration) (reservation : Option Reservation)
      → AreConsistent registrations reservation → are_consistent registrations reservation ≡ true
  pub shows : (registrations : List Registration) (reservation : Option Reservation)
      → are_consistent registrations reservation ≡ true → AreConsistent registrations reservation

-- The queues of unit attentions stay within their limits if the oldest condition of a queue, or a
-- given one, is cleared, and if a condition is raised for one initiator or for each. They are within
-- their limits after a power cycle.
pub record QueuesKeepTheirLimits : Type 0 where
  pub without : (pending : Pending) (initiator : ℕ) (condition : UnitAttention) → ArePending pending
      → ArePending (without_condition pending initiator condition)
  pub cleared : (pending : Pending) (initiator : ℕ) → ArePending pending
      → ArePending (without_oldest pending initiator)
  pub one_raised : (pending : Pending) (initiator : ℕ) (condition : UnitAttention)
      → ArePending pending → ArePending (raised pending initiator condition)
  pub raised : (pending : Pending) (conditions : Conditions) → ArePending pending
      → ArePending (raised_for_each pending conditions)
  pub power_cycle : ArePending power_on_pending
