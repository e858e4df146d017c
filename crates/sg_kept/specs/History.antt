-- The events that have happened to a disk in a file, and which of them a crash leaves.
use Rattle.std.specs.List.{flat_map}
use Rattle.std.specs.Prelude.{◌≡◌, ◌≤◌, ◌+◌, ℕ, List, [], ◌∷◌, ◌++◌, Bool, length, take, Some}
use Rattle.std.specs.Prelude.{if◌then◌else◌}
use Rattle.sg_journal.specs.Device.{LeavesOnly}
use Rattle.sg_target.specs.Armed.{Armed}
use Rattle.sg_target.specs.Runs.{after_events, armed_disk}
use Rattle.sg_target.specs.Target.{disk_of}
use Rattle.sg_target.specs.declared.call.Call.{Call}
use Rattle.sg_target.specs.declared.event.Event.{Event}
use Rattle.sg_kept.specs.declared.disk.KeptDisk.{KeptDisk}
use Rattle.sg_kept.specs.Disk.{IsAlive}
use Rattle.sg_kept.specs.Kept.{powered}
use Rattle.sg_kept.specs.Opened.{opened}

-- Opening a file finds the disk after power on to which the first of some events have happened: at least
-- this many, and none after them.
pub record HasFirstEvents (first : Armed) (events : List Event) (least : ℕ) (file : List ℕ) : Type 0 where
  pub count : ℕ
  pub at_least : least ≤ count
  pub at_most : count ≤ length events
  pub opens : opened file ≡ Some (powered (after_events armed_disk first (take count events)))

-- All these events have happened to the disk in memory since it was the first disk. Its file has the
-- first of them, at least this many.
pub record HasHistory {S D : Type 0} (seen : D → List ℕ) (disk : KeptDisk S D) (first : Armed)
    (events : List Event) (least : ℕ) : Type 0 where
  pub memory : disk_of disk.target ≡ after_events armed_disk first events
  pub file : HasFirstEvents first events least (seen disk.journal.device)

-- The command that an initiator sends, with its data-out.
pub record IsSent (call : Call) (initiator : ℕ) (cdb data_out : List ℕ) : Type 0 where
  pub same_initiator : call.initiator ≡ initiator
  pub same_cdb : call.cdb.now ≡ cdb
  pub same_data_out : call.data_out.now ≡ data_out

-- What a crash leaves of a whole list of events. A call of a disk in a file adds events to those of all
-- calls before it. A crash at any moment leaves the disk after the first events of the resulting list.
-- None is left out between them, and none is there in part. Each event that happened before the end of
-- the last flush is among them.
pub record AddsEvents {S D : Type 0} (seen : D → List ℕ) (moment : D → ℕ)
    (left_since : D → ℕ → List ℕ → Type 0) (old new : KeptDisk S D) (added : List Event)
    (has_flushed : Bool) : Type 0 where
  -- After the call, the events are in memory. If it has flushed, all events are in the file.
  pub history : IsAlive new → (first : Armed) (past : List Event) (least : ℕ)
      → HasHistory seen old first past least → let events = past ++ added in
      HasHistory seen new first events (if has_flushed then length events else least)
  -- During the call, whether it succeeds or the device fails
  pub crash : IsAlive old → (first : Armed) (past : List Event) (least : ℕ)
      → HasHistory seen old first past least
      → LeavesOnly moment left_since old.journal.device new.journal.device
      (HasFirstEvents first (past ++ added) least)

-- ---- From a moment on at which the file stands for the disk

-- A call that has succeeded: the disk after it, the events that it has added, and whether it has flushed.
pub record Done (S D : Type 0) : Type 0 where
  pub disk : KeptDisk S D
  pub added : List Event
  pub has_flushed : Bool

-- Calls that have succeeded, one after another.
abbrev pub AreDone : {S D : Type 0} → (seen : D → List ℕ) → (moment : D → ℕ)
    → (left_since : D → ℕ → List ℕ → Type 0) → (old : KeptDisk S D) → List (Done S D) → Type 0
AreDone seen moment left_since old [] = Unit {0}
AreDone seen moment left_since old (call ∷ calls) =
    AddsEvents seen moment left_since old call.disk call.added call.has_flushed
    × IsAlive call.disk × AreDone seen moment left_since call.disk calls

-- The disk after all calls.
abbrev pub disk_after : {S D : Type 0} → KeptDisk S D → List (Done S D) → KeptDisk S D
disk_after old [] = old
disk_after old (call ∷ calls) = disk_after call.disk calls

-- The events of all calls.
abbrev pub events_of : {S D : Type 0} → List (Done S D) → List Event
events_of calls = flat_map (λ call. call.added) calls

-- The number of events up to the last flush. `count` is the number of events before these calls, and
-- `flushed` of them come up to the last flush before.
abbrev pub flushed_events : {S D : Type 0} → (count flushed : ℕ) → List (Done S D) → ℕ
flushed_events count flushed [] = flushed
flushed_events count flushed (call ∷ calls) =
    let now = count + length call.added in
    flushed_events now (if call.has_flushed then now else flushed) calls

-- What a crash leaves from the start on. Any calls have succeeded, and a crash comes at any moment of the
-- next call. Then opening the file finds the disk after power on, after the first events of all calls, and
-- at least those up to the last flush.
pub record CrashesLeaveFirstEvents {S D : Type 0} (seen : D → List ℕ) (moment : D → ℕ)
    (left_since : D → ℕ → List ℕ → Type 0) (start : KeptDisk S D) : Type 0 where
  pub crash : (calls : List (Done S D)) → AreDone seen moment left_since start calls
      → (next : Done S D) → let last = disk_after start calls in
      AddsEvents seen moment left_since last next.disk next.added next.has_flushed
      → LeavesOnly moment left_since last.journal.device next.disk.journal.device
      (HasFirstEvents (disk_of start.target) (events_of calls ++ next.added) (flushed_events 0 0 calls))
