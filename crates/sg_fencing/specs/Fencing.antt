-- Fencing: what others can do to the initiator that holds a reservation of a type that nobody
-- shares.
use Rattle.std.specs.Prelude.{◌≡◌, ◌≢◌, ℕ, ◌==◌, Bool, true, false, ◌&&◌, ◌||◌, not, List}
use Rattle.std.specs.Prelude.{filter, slice_get, take, Option, Some, Result, Ok}
use Rattle.std.specs.FinMap.{len}
use Rattle.sg_wire.specs.CdbDecoding.{class_of, command_in, command_of}
use Rattle.sg_wire.specs.declared.command.CdbFault.{CdbFault}
use Rattle.sg_wire.specs.declared.command.Class.TheVariants.{Reads, Writes}
use Rattle.sg_wire.specs.declared.command.Command.{Command}
use Rattle.sg_wire.specs.declared.command.Command.TheVariants.{LogSense, PersistentReserveIn}
use Rattle.sg_wire.specs.declared.command.Command.TheVariants.{PersistentReserveOut}
use Rattle.sg_wire.specs.declared.command.out_action.OutAction.{OutAction}
use Rattle.sg_wire.specs.declared.command.out_action.OutAction.TheVariants.{RegisterAndMove}
use Rattle.sg_store.specs.Disk.{Contents, Disk}
use Rattle.sg_pages.specs.ModePage.{ModeState}
use Rattle.sg_units.specs.Attentions.{pending_for}
use Rattle.sg_units.specs.Laws.{ends_for_others}
use Rattle.sg_units.specs.Registrations.{key_of}
use Rattle.sg_units.specs.Reservations.{has_type, is_holder}
use Rattle.sg_units.specs.declared.reservation.Reservation.{Reservation}
use Rattle.sg_units.specs.declared.types.ReservationType.{ReservationType}
use Rattle.sg_units.specs.declared.types.ReservationType.TheVariants.{WriteExclusive}
use Rattle.sg_units.specs.declared.types.ReservationType.TheVariants.{ExclusiveAccess}
use Rattle.sg_units.specs.declared.unit_attention.UnitAttention.{UnitAttention}
use Rattle.sg_target.specs.Effect.{with_contents}
use Rattle.sg_target.specs.Runs.{all_calls, answers, state_after_all, state_after_events, step_of}
use Rattle.sg_target.specs.State.{IsWithinLimits, State, profile_of}
use Rattle.sg_target.specs.Step.{Answer, Step, step}
use Rattle.sg_target.specs.declared.call.Call.{Call}
use Rattle.sg_target.specs.declared.event.Event.{Event}
use Rattle.sg_target.specs.declared.event.Event.TheVariants as event
use Rattle.sg_target.specs.declared.reply.Status.TheVariants.{Good}
use Rattle.sg_fencing.specs.ChosenAnswers.{answers_where}

-- ---- Words

-- The view that an initiator has of the disk: the blocks, the mode pages, its pending unit
-- attentions, its reservation key, and the reservation; and whether the unit is stopped.
pub record View : Type 0 where
  pub disk : Disk
  pub modes : ModeState
  pub attentions : List UnitAttention
  pub key : Option ℕ
  pub reservation : Option Reservation
  pub stopped : Bool

abbrev pub view_of : State → (initiator : ℕ) → View
view_of state initiator = record {
  disk = state.disk;
  modes = state.modes;
  attentions = pending_for state.attentions initiator;
  key = key_of state.reservations.registrations initiator;
  reservation = state.reservations.reservation;
  stopped = state.stopped;
}

-- An initiator's view is left as it was, but a stopped unit may have been started: each initiator may start
-- it, whatever reservation is held (SBC-3, 4.17). The unit has not been stopped.
pub record IsLeft (before after : State) (initiator : ℕ) : Type 0 where
  pub view : view_of after initiator ≡ record (view_of before initiator) { stopped = after.stopped }
  pub not_stopped : before.stopped ≡ false → after.stopped ≡ false

-- An initiator holds a reservation of a type.
abbrev pub holds_type : State → (initiator : ℕ) → ReservationType → Bool
holds_type state initiator type =
    is_holder state.reservations initiator && has_type state.reservations.reservation type

-- It holds one of the types that nobody shares: write exclusive or exclusive access.
abbrev pub holds_alone : State → (initiator : ℕ) → Bool
holds_alone state initiator =
    holds_type state initiator WriteExclusive || holds_type state initiator ExclusiveAccess

-- PERSISTENT RESERVE IN and PERSISTENT RESERVE OUT, which show what others have registered.
abbrev pub shows_others : Result Command CdbFault → Bool
shows_others (Ok (PersistentReserveIn c)) = true
shows_others (Ok (PersistentReserveOut c)) = true
shows_others _ = false

-- REGISTER AND MOVE, by which a holder gives its reservation to another initiator (SPC-4, 5.13). A base
-- disk does not have it.
abbrev pub is_moving : OutAction → Bool
is_moving RegisterAndMove = true
is_moving _ = false

abbrev pub gives_away : Result Command CdbFault → Bool
gives_away (Ok (PersistentReserveOut c)) = is_moving c.action
gives_away _ = false

-- ---- One command

-- A command of another initiator, after which the holder still holds such a reservation, leaves the
-- holder's view as it was. Only a stopped unit may be started.
abbrev pub OthersLeaveTheView : Type 0
OthersLeaveTheView =
    (state : State) (holder other : ℕ) (cdb data_out : List ℕ) → IsWithinLimits state
    → other ≢ holder → holds_alone state holder ≡ true
    → holds_alone (step state other cdb data_out).state holder ≡ true
    → IsLeft state (step state other cdb data_out).state holder

-- Suppose that the holder has equal views in two states of one disk. Then its command ends with
-- equal views in both, and with equal answers, except to PERSISTENT RESERVE IN and PERSISTENT
-- RESERVE OUT. Only a REGISTER AND MOVE may end otherwise: whether there is room for a registration is in
-- no view of the holder.
pub record EndAlike (holder : ℕ) (cdb : List ℕ) (first second : Step) : Type 0 where
  pub view : view_of first.state holder ≡ view_of second.state holder
  pub answer : shows_others (command_of cdb) ≡ false → first.answer ≡ second.answer

abbrev pub EqualViewsEndAlike : Type 0
EqualViewsEndAlike =
    (first second : State) (holder : ℕ) (cdb data_out : List ℕ)
    → IsWithinLimits first → IsWithinLimits second → first.identity ≡ second.identity
    → view_of first holder ≡ view_of second holder → holds_alone first holder ≡ true
    → gives_away (command_in (profile_of first) cdb) ≡ false
    → EndAlike holder cdb (step first holder cdb data_out) (step second holder cdb data_out)

-- No command of another initiator that writes ends with GOOD. Under exclusive access, no command
-- that reads, such as READ, does either.
pub record IsShutOut (state : State) (holder other : ℕ) (cdb data_out : List ℕ) : Type 0 where
  pub writes : class_of cdb ≡ Some Writes
      → (step state other cdb data_out).answer.status ≢ Good
  pub reads : class_of cdb ≡ Some Reads → holds_type state holder ExclusiveAccess ≡ true
      → (step state other cdb data_out).answer.status ≢ Good

abbrev pub OthersAreShutOut : Type 0
OthersAreShutOut =
    (state : State) (holder other : ℕ) (cdb data_out : List ℕ) → IsWithinLimits state
    → other ≢ holder → holds_alone state holder ≡ true
    → IsShutOut state holder other cdb data_out

-- PERSISTENT RESERVE OUT with CLEAR, PREEMPT or PREEMPT AND ABORT.
abbrev pub can_end_for_others : Result Command CdbFault → Bool
can_end_for_others (Ok (PersistentReserveOut c)) = ends_for_others c.action
can_end_for_others _ = false

-- No other command of another initiator ends the reservation.
abbrev pub OnlyPreemptionEnds : Type 0
OnlyPreemptionEnds =
    (state : State) (holder other : ℕ) (cdb data_out : List ℕ) → IsWithinLimits state
    → other ≢ holder → holds_alone state holder ≡ true
    → can_end_for_others (command_of cdb) ≡ false
    → holds_alone (step state other cdb data_out).state holder ≡ true

-- LOG SENSE of page 0Ch reports how many blocks of the pool are used (SBC-3, log parameters). A
-- reservation does not stop it (SPC-4, 5.13).
abbrev pub counts_used : Result Command CdbFault → Bool
counts_used (Ok (LogSense c)) = c.page_code == 0x0C
counts_used _ = false

-- A command counts as many used addresses in other contents as on the disk: it counts none, or the numbers
-- are the same.
abbrev pub CountsAsMany : State → Contents → (cdb : List ℕ) → Type 0
CountsAsMany state contents cdb =
    counts_used (command_in (profile_of state) cdb) ≡ true → len contents ≡ len state.disk.contents

-- Under exclusive access the answer to a command of another initiator is the same whatever the
-- blocks are, and whichever are mapped. This holds for each command, of whichever class. Only LOG SENSE
-- of page 0Ch reports how many are used.
abbrev pub OthersSeeNoBlock : Type 0
OthersSeeNoBlock =
    (state : State) (contents : Contents) (holder other : ℕ) (cdb data_out : List ℕ)
    → IsWithinLimits state → other ≢ holder → holds_type state holder ExclusiveAccess ≡ true
    → CountsAsMany state contents cdb
    → (step (with_contents state contents) other cdb data_out).answer
    ≡ (step state other cdb data_out).answer

-- ---- Lists of commands

-- The calls of an initiator, in order.
abbrev pub is_from : (initiator : ℕ) → Call → Bool
is_from initiator call = call.initiator == initiator

abbrev pub calls_of : (initiator : ℕ) → List Call → List Call
calls_of initiator calls = filter (is_from initiator) calls

-- The calls of the initiator whose answers are compared: all except PERSISTENT RESERVE IN and
-- PERSISTENT RESERVE OUT.
abbrev pub is_compared : (initiator : ℕ) → Call → Bool
is_compared initiator call =
    is_from initiator call && not (shows_others (command_of call.cdb.now))

-- The view of an initiator in the end, and the answers that are compared, are the same as in a run
-- of only its calls.
pub record IsAsIfAlone (state : State) (initiator : ℕ) (calls : List Call) : Type 0 where
  pub view : view_of (state_after_all state calls) initiator
      ≡ view_of (state_after_all state (calls_of initiator calls)) initiator
  pub answers : answers_where (is_compared initiator) state calls
      ≡ answers_where (is_compared initiator) state (calls_of initiator calls)

-- A command of another initiator that finds the unit stopped leaves it stopped. On a base disk the unit is
-- never stopped.
abbrev pub NobodyElseStarts : (initiator : ℕ) → State → List Event → Type 0
NobodyElseStarts initiator state events =
    (n : ℕ) (call : Call) → slice_get events n ≡ Some (event.Call call)
    → call.initiator ≢ initiator →
    (let before = state_after_events state (take n events) in
    before.stopped ≡ true → (step_of before call).state.stopped ≡ true)

-- An initiator does not try to give a reservation away. On a base disk none can.
abbrev pub GivesNothingAway : (initiator : ℕ) → State → List Event → Type 0
GivesNothingAway initiator state events =
    (n : ℕ) (call : Call) → slice_get events n ≡ Some (event.Call call)
    → call.initiator ≡ initiator →
    (let before = state_after_events state (take n events) in
    gives_away (command_in (profile_of before) call.cdb.now) ≡ false)

-- This holds if the initiator holds such a reservation before and after each call and does not try to give
-- it away, and no other initiator starts the unit.
abbrev pub HolderIsAsIfAlone : Type 0
HolderIsAsIfAlone =
    (state : State) (holder : ℕ) (calls : List Call) → IsWithinLimits state
    → ((n : ℕ) → holds_alone (state_after_all state (take n calls)) holder ≡ true)
    → NobodyElseStarts holder state (all_calls calls)
    → GivesNothingAway holder state (all_calls calls)
    → IsAsIfAlone state holder calls

-- While an initiator holds a reservation for exclusive access, no command of another that reads,
-- such as READ, ends with GOOD.
abbrev pub OthersReadNothing : Type 0
OthersReadNothing =
    (state : State) (holder : ℕ) (calls : List Call) (n : ℕ) (call : Call) (answer : Answer)
    → IsWithinLimits state
    → slice_get calls n ≡ Some call → slice_get (answers state calls) n ≡ Some answer
    → call.initiator ≢ holder → class_of call.cdb.now ≡ Some Reads
    → holds_type (state_after_all state (take n calls)) holder ExclusiveAccess ≡ true
    → answer.status ≢ Good
