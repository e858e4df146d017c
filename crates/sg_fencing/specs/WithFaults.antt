-- Fencing on a disk with armed faults. A fault can drop a command, cut it short or report it as failed.
-- It lets no command through a fence.
use Rattle.std.specs.Prelude.{◌≡◌, ◌≢◌, ℕ, Bool, true, false, List, [], map, slice_get, take}
use Rattle.std.specs.Prelude.{Option, Some, None, if◌then◌else◌, option_and_then}
use Rattle.sg_wire.specs.CdbDecoding.{class_of, command_of}
use Rattle.sg_wire.specs.declared.command.Class.TheVariants.{Reads, Writes}
use Rattle.sg_store.specs.Disk.{Contents}
use Rattle.sg_faults.specs.Arming.{count_for, is_spent}
use Rattle.sg_faults.specs.declared.fault.ArmedFault.{ArmedFault}
use Rattle.sg_faults.specs.declared.fault.Count.{Count}
use Rattle.sg_faults.specs.declared.fault.Fault.{Fault}
use Rattle.sg_units.specs.declared.types.ReservationType.TheVariants.{ExclusiveAccess}
use Rattle.sg_target.specs.Armed.{Armed, ArmedStep, armed_step}
use Rattle.sg_target.specs.Effect.{with_contents}
use Rattle.sg_target.specs.Runs.{after_events, armed_disk, armed_step_of}
use Rattle.sg_target.specs.State.{IsWithinLimits}
use Rattle.sg_target.specs.declared.call.Call.{Call}
use Rattle.sg_target.specs.declared.event.Event.{Event}
use Rattle.sg_target.specs.declared.event.Event.TheVariants as event
use Rattle.sg_target.specs.declared.reply.Status.TheVariants.{Good}
use Rattle.sg_fencing.specs.Fencing.{CountsAsMany, IsLeft, holds_alone, holds_type}
use Rattle.sg_fencing.specs.Registrants.{IsPreempted, Registers, asks_to_register, excludes_reading}
use Rattle.sg_fencing.specs.Registrants.{is_fenced_off, is_registrant, is_reserved, registers_another}
use Rattle.sg_fencing.specs.Registrants.{rules_for}

-- ---- Words

-- A command is denied: it does not end with GOOD, and returns no data-in, not even bytes that do not
-- arrive. On a disk with armed faults the first does not imply the second, since a fault can report a
-- READ as failed after it.
pub record IsDenied (done : ArmedStep) : Type 0 where
  pub status : done.answer.status ≢ Good
  pub data_in : done.answer.data_in ≡ []
  pub unsent : done.unsent ≡ []

-- Two commands return the same, also the same bytes that do not arrive.
pub record ReturnTheSame (first second : ArmedStep) : Type 0 where
  pub answer : first.answer ≡ second.answer
  pub unsent : first.unsent ≡ second.unsent

-- The disk has other blocks, and the same faults.
abbrev pub with_other_blocks : Armed → Contents → Armed
with_other_blocks disk contents = record disk { state = with_contents disk.state contents }

-- What is left of a fault for an initiator: the fault, and its count for the initiator.
abbrev pub left_for : (initiator : ℕ) → ArmedFault → Option (Fault × Count)
left_for initiator a = let count = count_for a initiator in
    if is_spent count then None else Some (a.fault, count)

-- What is left of the armed faults for an initiator, by their numbers.
abbrev pub faults_for : Armed → (initiator : ℕ) → List (Option (Fault × Count))
faults_for disk initiator = map (λ slot. option_and_then (left_for initiator) slot) disk.faults

-- A command of an initiator is denied if it writes. If reading is excluded, a command that reads, such
-- as READ, is denied too. Then the answer to any command, of whichever class, is the same whatever the
-- blocks are, and whichever are mapped. Only LOG SENSE of page 0Ch reports how many are used. No command
-- changes what is left of the faults for others.
pub record IsKeptAway (disk : Armed) (initiator : ℕ) (cdb data_out : List ℕ)
    (excludes_reading : Bool) : Type 0 where
  pub writes : class_of cdb ≡ Some Writes → IsDenied (armed_step disk initiator cdb data_out)
  pub reads : class_of cdb ≡ Some Reads → excludes_reading ≡ true
      → IsDenied (armed_step disk initiator cdb data_out)
  pub unseen : (contents : Contents) → excludes_reading ≡ true
      → CountsAsMany disk.state contents cdb
      → ReturnTheSame (armed_step (with_other_blocks disk contents) initiator cdb data_out)
      (armed_step disk initiator cdb data_out)
  pub faults : (other : ℕ) → other ≢ initiator
      → faults_for (armed_step disk initiator cdb data_out).after other ≡ faults_for disk other

-- ---- One command

-- An initiator is kept away from the blocks. Its command leaves the view of every other initiator,
-- registered or not, as it was. It may only start a stopped unit, and on an extended disk it may register
-- others together with itself.
pub record IsFencedOut (disk : Armed) (initiator : ℕ) (cdb data_out : List ℕ) : Type 0 where
  pub kept : IsKeptAway disk initiator cdb data_out
      (excludes_reading disk.state.reservations.reservation)
  pub others : (other : ℕ) → other ≢ initiator
      → registers_another disk.state initiator other cdb data_out ≡ false
      → IsLeft disk.state (armed_step disk initiator cdb data_out).after.state other

-- This holds for an initiator that is fenced off, whatever faults are armed.
abbrev pub FaultsLetNobodyThrough : Type 0
FaultsLetNobodyThrough =
    (disk : Armed) (initiator : ℕ) (cdb data_out : List ℕ) → IsWithinLimits disk.state
    → is_fenced_off disk.state initiator ≡ true → IsFencedOut disk initiator cdb data_out

-- Another initiator than the holder is kept away from the blocks. If the holder still holds such a
-- reservation after its command, that command leaves the holder's view as it was. It may only start a
-- stopped unit.
pub record IsShutOutWithFaults (disk : Armed) (holder other : ℕ) (cdb data_out : List ℕ)
    : Type 0 where
  pub kept : IsKeptAway disk other cdb data_out (holds_type disk.state holder ExclusiveAccess)
  pub view : holds_alone (armed_step disk other cdb data_out).after.state holder ≡ true
      → IsLeft disk.state (armed_step disk other cdb data_out).after.state holder

-- This holds while an initiator holds a reservation of a type that nobody shares, whatever faults are
-- armed.
abbrev pub FaultsLetNobodyPastTheHolder : Type 0
FaultsLetNobodyPastTheHolder =
    (disk : Armed) (holder other : ℕ) (cdb data_out : List ℕ) → IsWithinLimits disk.state
    → other ≢ holder → holds_alone disk.state holder ≡ true
    → IsShutOutWithFaults disk holder other cdb data_out

-- Whatever faults are armed, an initiator becomes registered only by a command that asks for it. On a
-- disk without faults that command ends with GOOD. A fault afterwards can report it as failed. So
-- an initiator can be registered although none of its commands has ended with GOOD.
abbrev pub FaultsRegisterNobody : Type 0
FaultsRegisterNobody =
    (disk : Armed) (initiator caller : ℕ) (cdb data_out : List ℕ)
    → is_registrant disk.state initiator ≡ false
    → is_registrant (armed_step disk caller cdb data_out).after.state initiator ≡ true
    → Registers disk.state initiator caller cdb data_out

-- ---- Lists of events

-- Of the commands among events that ask to register an initiator, none leaves it registered. This speaks
-- of the states after the commands, and not of the answers to them. A fault afterwards can report a
-- REGISTER as failed that has registered the initiator.
abbrev pub IsNeverRegistered : (initiator : ℕ) → Armed → List Event → Type 0
IsNeverRegistered initiator disk events =
    (n : ℕ) (call : Call) → slice_get events n ≡ Some (event.Call call) →
    (let before = after_events armed_disk disk (take n events) in
    asks_to_register (rules_for before.state) call.initiator initiator (command_of call.cdb.now)
    call.data_out.now ≡ true
    → is_registrant (armed_step_of before call).after.state initiator ≡ false)

-- From a disk on, an initiator is fenced out whenever a reservation is held. This lasts until a command
-- that asks to register it does so. Other initiators may send anything else, and anything may happen.
-- Faults may be armed and taken away.
abbrev pub StaysFencedOut : (initiator : ℕ) → Armed → Type 0
StaysFencedOut initiator disk =
    (events : List Event) (cdb data_out : List ℕ) → IsNeverRegistered initiator disk events
    → let left = after_events armed_disk disk events in
    is_reserved left.state ≡ true → IsFencedOut left initiator cdb data_out

-- This holds for each initiator that is not registered.
abbrev pub FencedOffThroughFaults : Type 0
FencedOffThroughFaults =
    (disk : Armed) (initiator : ℕ) → IsWithinLimits disk.state
    → is_registrant disk.state initiator ≡ false → StaysFencedOut initiator disk

-- It holds after a PREEMPT or a PREEMPT AND ABORT of the initiator's key that ends with GOOD.
abbrev pub PreemptedStayFencedOut : Type 0
PreemptedStayFencedOut =
    (disk : Armed) (preempt : Call) (initiator : ℕ) → IsWithinLimits disk.state
    → IsPreempted disk.state initiator preempt (armed_step_of disk preempt).answer
    → StaysFencedOut initiator (armed_step_of disk preempt).after
