-- Power cycles, in a user's words: what is left, what is reported, and that fencing outlives them.
use Rattle.std.specs.Prelude.{◌≡◌, ◌≢◌, ◌<◌, ◌≤◌, ◌==◌, ℕ, ◌+◌, Bool, true, false, not, ◌||◌}
use Rattle.std.specs.Prelude.{List, [], ◌∷◌, Some, None}
use Rattle.std.specs.Prelude.{filter, slice_get, take}
use Rattle.sg_wire.specs.CdbDecoding.{class_of, command_of}
use Rattle.sg_wire.specs.declared.command.Class.TheVariants.{Writes}
use Rattle.sg_wire.specs.Initiator.{initiator_count}
use Rattle.sg_wire.specs.declared.out_list.OutList.{OutList}
use Rattle.sg_units.specs.Attentions.{pending_for}
use Rattle.sg_units.specs.declared.unit_attention.UnitAttention.TheVariants.{PowerOn}
use Rattle.sg_target.specs.PowerCycle.{after_power_cycle}
use Rattle.sg_target.specs.Runs.{state_after_events, step_of}
use Rattle.sg_target.specs.State.{IsWithinLimits, State}
use Rattle.sg_target.specs.declared.call.Call.{Call}
use Rattle.sg_target.specs.declared.event.Event.{Event}
use Rattle.sg_target.specs.declared.event.Event.TheVariants as event
use Rattle.sg_target.specs.declared.happening.Happening.TheVariants.{Power}
use Rattle.sg_target.specs.declared.reply.Status.TheVariants.{Good}
use Rattle.sg_fencing.specs.ChosenAnswers.{answers_among}
use Rattle.sg_fencing.specs.Fencing.{GivesNothingAway, NobodyElseStarts, holds_alone, is_compared}
use Rattle.sg_fencing.specs.Fencing.{is_from, view_of}
use Rattle.sg_fencing.specs.Registrants.{IsNeverGranted, is_registrant, is_reserved}
use Rattle.sg_fencing.specs.Registrants.{registering_list}

-- ---- One power cycle

-- Registrations and reservation persist through a power loss.
abbrev pub persists : State → Bool
persists state = state.reservations.persists_through_power_loss

-- The blocks are as they were, and the saved mode pages are the current ones and still the saved
-- ones.
pub record KeepsBlocksAndSavedPages (before after : State) : Type 0 where
  pub blocks : after.disk ≡ before.disk
  pub current : after.modes.current ≡ before.modes.saved
  pub saved : after.modes.saved ≡ before.modes.saved

abbrev pub BlocksAndSavedPagesStay : Type 0
BlocksAndSavedPagesStay =
    (state : State) → KeepsBlocksAndSavedPages state (after_power_cycle state)

-- If they persist, the registrations and the reservation are as they were, and persist through the
-- next power loss too. PRGENERATION begins again (SPC-4, 6.15.2).
pub record KeepsReservations (before after : State) : Type 0 where
  pub registrations : after.reservations.registrations ≡ before.reservations.registrations
  pub reservation : after.reservations.reservation ≡ before.reservations.reservation
  pub persist : persists after ≡ true
  pub generation : after.reservations.generation ≡ 0

abbrev pub PersistentOnesStay : Type 0
PersistentOnesStay =
    (state : State) → persists state ≡ true → KeepsReservations state (after_power_cycle state)

-- Otherwise there are none, as on a new disk.
pub record HasNoReservations (state : State) : Type 0 where
  pub registrations : state.reservations.registrations ≡ []
  pub reservation : state.reservations.reservation ≡ None
  pub persist : persists state ≡ false
  pub generation : state.reservations.generation ≡ 0

abbrev pub OthersAreGone : Type 0
OthersAreGone =
    (state : State) → persists state ≡ false → HasNoReservations (after_power_cycle state)

-- POWER ON is pending for each initiator, and nothing that was pending before (SAM-5, 5.14).
abbrev pub PowerOnIsPendingForEach : Type 0
PowerOnIsPendingForEach =
    (state : State) (initiator : ℕ) → initiator < initiator_count
    → pending_for (after_power_cycle state).attentions initiator ≡ PowerOn ∷ []

-- Two power cycles in a row are as one.
abbrev pub TwoAreOne : Type 0
TwoAreOne =
    (state : State) → after_power_cycle (after_power_cycle state) ≡ after_power_cycle state

-- ---- Lists of events

-- A REGISTER, a REGISTER AND IGNORE EXISTING KEY or a REGISTER AND MOVE counts if it ends with GOOD, and
-- increments PRGENERATION then. It does not count if its initiator is not registered and sends the key
-- zero.
pub record Counts (state : State) (call : Call) (list : OutList) : Type 0 where
  pub sent : registering_list (command_of call.cdb.now) call.data_out.now ≡ Some list
  pub good : (step_of state call).answer.status ≡ Good
  pub acts : (is_registrant state call.initiator || not (list.service_action_key == 0)) ≡ true

-- None of the events from an index on counts.
abbrev pub NoneCountsFrom : (index : ℕ) → State → List Event → Type 0
NoneCountsFrom index state events =
    (n : ℕ) (call : Call) (list : OutList) → index ≤ n → slice_get events n ≡ Some (event.Call call)
    → Counts (state_after_events state (take n events)) call list → ⊥

-- Commands and power cycles happen in any order. Afterwards registrations and reservation persist
-- through a power loss exactly if the last command that counts set APTPL (SPC-4, 6.16.3). If none
-- counts, they persist exactly if they did before.
pub record TheLastRegisterDecides : Type 0 where
  pub last : (state : State) (events : List Event) (n : ℕ) (call : Call) (list : OutList)
      → slice_get events n ≡ Some (event.Call call)
      → Counts (state_after_events state (take n events)) call list
      → NoneCountsFrom (n + 1) state events
      → persists (state_after_events state events) ≡ list.aptpl
  pub none : (state : State) (events : List Event) → NoneCountsFrom 0 state events
      → persists (state_after_events state events) ≡ persists state

-- An initiator was not registered, and the disk has granted it no registration since, whatever
-- commands and power cycles happened. Then it writes nothing while a reservation is held: none of
-- its commands that write ends with GOOD. So such a node stays fenced off while a reservation is
-- held, through power cycles of the disk, and however often it tries to register without success.
abbrev pub FencedOffThroughPowerCycles : Type 0
FencedOffThroughPowerCycles =
    (state : State) (initiator : ℕ) (events : List Event) (call : Call)
    → is_registrant state initiator ≡ false → IsNeverGranted initiator state events
    → call.initiator ≡ initiator → class_of call.cdb.now ≡ Some Writes
    → is_reserved (state_after_events state events) ≡ true
    → (step_of (state_after_events state events) call).answer.status ≢ Good

-- The commands of an initiator and all happenings, in order.
abbrev pub happens_to : (initiator : ℕ) → Event → Bool
happens_to initiator (event.Call call) = is_from initiator call
happens_to initiator (event.Happen happening) = true

abbrev pub events_of : (initiator : ℕ) → List Event → List Event
events_of initiator events = filter (happens_to initiator) events

-- Registrations and reservation persist at each power cycle among the events.
abbrev pub PersistAtPowerCycles : State → List Event → Type 0
PersistAtPowerCycles state events =
    (n : ℕ) → slice_get events n ≡ Some (event.Happen Power)
    → persists (state_after_events state (take n events)) ≡ true

-- The view of an initiator in the end, and the compared answers, are the same as after only its
-- commands and the power cycles.
pub record IsAsIfAloneAmong (state : State) (initiator : ℕ) (events : List Event) : Type 0 where
  pub view : view_of (state_after_events state events) initiator
      ≡ view_of (state_after_events state (events_of initiator events)) initiator
  pub answers : answers_among (is_compared initiator) state events
      ≡ answers_among (is_compared initiator) state (events_of initiator events)

-- This holds under three conditions. The initiator holds a reservation of a type that nobody shares
-- before and after each event, and does not try to give it away. No other initiator starts the unit. In a
-- run of only its own commands and the power cycles, registrations and reservation persist at each power
-- cycle. The first condition does not imply the last: a REGISTER of another initiator sets APTPL for all.
abbrev pub HolderIsAsIfAloneThroughPowerCycles : Type 0
HolderIsAsIfAloneThroughPowerCycles =
    (state : State) (holder : ℕ) (events : List Event) → IsWithinLimits state
    → ((n : ℕ) → holds_alone (state_after_events state (take n events)) holder ≡ true)
    → NobodyElseStarts holder state events
    → GivesNothingAway holder state events
    → PersistAtPowerCycles state (events_of holder events)
    → IsAsIfAloneAmong state holder events
