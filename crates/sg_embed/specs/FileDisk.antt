-- A disk in a file, and its calls. Each call on the file waits in a queue until C takes it out and makes it.
use Rattle.std.specs.Prelude.{◌≡◌, ◌⊎◌, ◌≤◌, ◌<◌, ℕ, Bool, true, false, ◌&&◌, not, List, [], ◌∷◌}
use Rattle.std.specs.Prelude.{length, take, Option, None, Some, Result, Ok, Err}
use Rattle.sg_extent_map.specs.declared.extent_map.ExtentMap.{ExtentMap}
use Rattle.sg_file.specs.Calls.{Call as FileCall}
use Rattle.sg_file.specs.History as history
use Rattle.sg_file.specs.declared.device.FileDevice.{FileDevice}
use Rattle.sg_journal.specs.Device.{LeavesOnly}
use Rattle.sg_queue.specs.NextCall.{IsTooLong, TakesOut}
use Rattle.sg_queue.specs.QueueFields.{QueueFields, all_calls, has_any}
use Rattle.sg_queue.specs.QueuedCall.{call_as}
use Rattle.sg_queue.specs.declared.call.QueuedCall.{QueuedCall}
use Rattle.sg_queue.specs.declared.queue.TooShort.{TooShort}
use Rattle.sg_queue.specs.declared.queued_file.QueuedFile.{QueuedFile}
use Rattle.sg_kept.specs.Compaction.{HasWrittenAll, IsCompacting, longest_of}
use Rattle.sg_kept.specs.Disk.{IsAlive, IsDead, IsUsable, failure_reply, longest_file}
use Rattle.sg_kept.specs.GroupCommit.{HasUnwritten}
use Rattle.sg_kept.specs.History.{AddsEvents, HasHistory, IsSent}
use Rattle.sg_kept.specs.Kept.{powered, without_port}
use Rattle.sg_kept.specs.Opened.{IsBeforeOr, opened}
use Rattle.sg_kept.specs.Owing.{owes_flush}
use Rattle.sg_kept.specs.declared.disk.KeptDisk.{KeptDisk}
use Rattle.sg_target.specs.Armed.{Armed, armed_step}
use Rattle.sg_target.specs.Executed.{executed_operation}
use Rattle.sg_target.specs.Execution.{IsExecuted}
use Rattle.sg_target.specs.Runs.{armed_after_happening}
use Rattle.sg_target.specs.Target.{TargetFields, disk_of}
use Rattle.sg_target.specs.declared.call.Call.{Call}
use Rattle.sg_target.specs.declared.event.Event.{Event}
use Rattle.sg_target.specs.declared.event.Event.TheVariants.{Happen, Call as Command}
use Rattle.sg_target.specs.declared.happening.Happening.{Happening}
use Rattle.sg_target.specs.declared.reply.Reply.{Reply}

-- ---- The disk and its file

-- The file, whose calls wait.
abbrev pub QueuedDevice : Type 0
QueuedDevice = FileDevice QueuedFile

abbrev pub QueuedDisk : Type 0
QueuedDisk = KeptDisk ExtentMap QueuedDevice

pub record FileDiskFields : Type 0 where
  -- the disk in memory, and its file
  pub kept : QueuedDisk
  -- what C calls the file's device
  pub device : ℕ
  -- the address that a compaction goes on from, if one is under way
  pub next : Option ℕ

abbrev pub queue_of : FileDiskFields → QueueFields
queue_of disk = disk.kept.journal.device.file

abbrev pub target_in : FileDiskFields → TargetFields
target_in disk = disk.kept.target

-- The disk as the definitions of the target have it.
abbrev pub armed_in : FileDiskFields → Armed
armed_in disk = disk_of disk.kept.target

-- ---- What a crash leaves, by all calls on the file. A call that waits counts as if it had succeeded.

abbrev pub calls_on : QueuedDevice → List FileCall
calls_on device = all_calls device.file

abbrev pub seen : QueuedDevice → List ℕ
seen device = history.seen (calls_on device)

abbrev pub may_leave : QueuedDevice → List ℕ → Type 0
may_leave device = history.may_leave (calls_on device)

abbrev pub moment : QueuedDevice → ℕ
moment device = history.moment (calls_on device)

abbrev pub left_since : QueuedDevice → ℕ → List ℕ → Type 0
left_since device = history.left_since (calls_on device)

abbrev pub failures : QueuedDevice → ℕ
failures device = history.failures (calls_on device)

abbrev pub draft : QueuedDevice → List ℕ
draft device = history.draft (calls_on device)

-- ---- The compaction. It puts the calls of one batch into the queue, and goes on once no call waits.

-- A disk that no compaction is under way on, or one that goes on from an address.
abbrev pub IsBetweenSteps : QueuedDisk → (next : Option ℕ) → Type 0
IsBetweenSteps disk None = IsAlive disk → IsUsable seen may_leave disk
IsBetweenSteps disk (Some next) = IsCompacting seen may_leave draft disk next

-- While a compaction is under way, calls wait.
abbrev pub WaitsIfCompacting : QueuedDisk → (next : Option ℕ) → Type 0
WaitsIfCompacting disk next = has_any disk.journal.device.file.waiting ≡ false → next ≡ None

-- A disk that is ready for a command. A dead disk is always ready: it refuses each.
abbrev pub IsReady : QueuedDisk → (next : Option ℕ) → Type 0
IsReady disk next = IsBetweenSteps disk next × WaitsIfCompacting disk next

-- The file is at most twice as long as the longest snapshot of such a disk, and 16 MiB, unless a compaction
-- is under way. So the file is short once no call waits.
pub record IsShort (disk : QueuedDisk) (next : Option ℕ) : Type 0 where
  pub ended : next ≡ None → disk.journal.length ≤ longest_of disk
  pub waits : WaitsIfCompacting disk next

-- A compaction begins, goes on or ends.
pub record Compacts (old new : QueuedDisk) : Type 0 where
  -- The disk does not change, nor does what opening the file finds, at any moment of a crash.
  pub disk : disk_of new.target ≡ disk_of old.target
  pub in_file : IsAlive new → opened (seen new.journal.device) ≡ opened (seen old.journal.device)
  pub any_moment : LeavesOnly moment left_since old.journal.device new.journal.device
      (λ c. opened c ≡ opened (seen old.journal.device))
  -- It fails only if a call on the file is refused.
  pub later : failures old.journal.device ≤ failures new.journal.device
  pub cause : IsDead new → failures old.journal.device < failures new.journal.device

-- A compaction that is under way goes on, until calls wait or it has ended.
pub record CompactsOn (old new : QueuedDisk) (from to : Option ℕ) : Type 0 where
  -- If calls wait already, or if none is under way, nothing changes.
  pub spared : (has_any old.journal.device.file.waiting ≡ true) ⊎ (from ≡ None)
      → (new ≡ old) × (to ≡ from)
  pub compacts : Compacts old new
  -- The file is short if the compaction has ended.
  pub short : IsAlive new → (from ≡ None → old.journal.length ≤ longest_of old) → IsShort new to

-- Opening the file finds the disk, after power on.
abbrev pub IsInFile : FileDiskFields → Type 0
IsInFile disk = opened (seen disk.kept.journal.device) ≡ Some (powered (armed_in disk))

-- A call adds events to those of all calls before it, and this is what a crash leaves of them.
abbrev pub Adds : (old new : FileDiskFields) → List Event → (has_flushed : Bool) → Type 0
Adds old new = AddsEvents seen moment left_since old.kept new.kept

-- ---- The calls

-- What holds of each call on a disk. If it succeeds, the disk becomes another one.
pub record CallsDisk (old new : FileDiskFields) (becomes : Armed) : Type 0 where
  -- It fails only if a call on the file is refused, or if the file is too long. Then it stays dead.
  pub cause : IsAlive old.kept → IsDead new.kept
      → (failures old.kept.journal.device < failures new.kept.journal.device)
      ⊎ (longest_file < old.kept.journal.length)
  pub stays_dead : IsDead old.kept → new ≡ old
  -- A crash at any moment leaves what the file had, or the other disk, after power on.
  pub any_moment : IsAlive old.kept → LeavesOnly moment left_since old.kept.journal.device
      new.kept.journal.device (IsBeforeOr (seen old.kept.journal.device) becomes)
  -- The file is short, or a compaction is under way.
  pub short : IsAlive new.kept → IsShort new.kept new.next
  -- C calls the file's device as before.
  pub device : new.device ≡ old.device

-- A command owes a flush, and records wait for one.
pub record WaitsForFlush (initiator : ℕ) (cdb data_out : List ℕ) (old new : FileDiskFields) : Type 0 where
  pub alive : IsAlive new.kept
  pub owes : owes_flush (armed_in new) cdb
      (executed_operation (armed_in old) initiator cdb data_out) ≡ true
  pub unwritten : HasUnwritten new.kept

-- The disk executes a command, or refuses it because the file has failed. The reply may have to wait for a
-- flush.
pub record ExecutesInFile (initiator : ℕ) (cdb data_out : List ℕ) (reply : Reply) (waits : Bool)
    (before after : List ℕ) (old new : FileDiskFields) : Type 0 where
  -- While the file has not failed, the reply and the disk after it are those of the command.
  pub executed : IsAlive new.kept
      → IsExecuted initiator cdb data_out (armed_in old) (armed_in new) reply before after
  -- If the reply does not have to wait, what the command owes is in the file as soon as no call waits.
  pub owed : IsAlive new.kept → waits ≡ false → owes_flush (armed_in new) cdb
      (executed_operation (armed_in old) initiator cdb data_out) ≡ true → IsInFile new
  -- It has to wait only if the command owes a flush, and records wait for one.
  pub waits_for_flush : waits ≡ true → WaitsForFlush initiator cdb data_out old new
  -- If it has to wait, nothing that the command owes counts as flushed.
  pub events : (call : Call) → IsSent call initiator cdb data_out
      → Adds old new (Command call ∷ []) (not waits && owes_flush (armed_in new) cdb
      (executed_operation (armed_in old) initiator cdb data_out))
  pub failed : IsDead new.kept → reply ≡ failure_reply new.kept.target.state
  pub calls : CallsDisk old new (armed_step (armed_in old) initiator cdb data_out).after

-- Something happens to the disk, unless the file has failed.
pub record HappensInFile (happening : Happening) (old new : FileDiskFields) : Type 0 where
  pub happened : IsAlive new.kept → armed_in new ≡ armed_after_happening (armed_in old) happening
  pub written : IsAlive new.kept → IsInFile new
  pub events : Adds old new (Happen happening ∷ []) true
  pub calls : CallsDisk old new (armed_after_happening (armed_in old) happening)

-- The disk forgets an initiator's port, unless the file has failed. All events before it are in the file.
-- Those after it happen to the disk without the port.
pub record ForgetsInFile (initiator : ℕ) (old new : FileDiskFields) : Type 0 where
  pub forgotten : IsAlive new.kept → armed_in new ≡ without_port (armed_in old) initiator
  pub remembered : IsDead new.kept → armed_in new ≡ armed_in old
  pub written : IsAlive new.kept → IsInFile new
  pub history : IsAlive new.kept → HasHistory seen new.kept (armed_in new) [] 0
  pub calls : CallsDisk old new (armed_in old)

-- All that was changed is written, unless the file has failed.
pub record FlushesFile (old new : FileDiskFields) : Type 0 where
  pub written : IsAlive new.kept → IsInFile new
  pub disk : armed_in new ≡ armed_in old
  pub events : Adds old new [] true
  pub calls : CallsDisk old new (armed_in old)

-- The device has failed, as C says. A compaction that is under way is given up.
abbrev pub failed_disk : FileDiskFields → FileDiskFields
failed_disk disk = record {
  kept = record disk.kept { is_dead = true };
  device = disk.device;
  next = None;
}

-- ---- The calls that wait

-- A dead disk makes no calls.
abbrev pub has_calls : FileDiskFields → Bool
has_calls disk = not disk.kept.is_dead && has_any (queue_of disk).waiting

-- The same disk with other calls.
abbrev pub with_queue : FileDiskFields → QueueFields → FileDiskFields
with_queue disk queue = record {
  kept = record disk.kept {
    journal = record disk.kept.journal { device = record { file = queue } };
  };
  device = disk.device;
  next = disk.next;
}

-- The oldest call that waits is handed out: from then on it counts as made. A compaction that is under way
-- goes on if no other call waits.
pub record HandsOutCall (call : QueuedCall) (before after : List ℕ) (old new : FileDiskFields) : Type 0
  where
    pub alive : IsAlive old.kept
    -- the disk with the other calls
    pub left : FileDiskFields
    pub oldest : TakesOut call (queue_of old).waiting (queue_of left).waiting before after
    pub made : (queue_of left).made ≡ call_as call (take call.length after) ∷ (queue_of old).made
    pub kept : left ≡ with_queue old (record (queue_of old) {
      waiting = (queue_of left).waiting;
      made = (queue_of left).made;
    })
    -- What a crash may leave stays the same.
    pub calls : calls_on left.kept.journal.device ≡ calls_on old.kept.journal.device
    pub goes_on : CompactsOn left.kept new.kept left.next new.next
    pub device : new.device ≡ left.device

-- The next call that waits: it is handed out, or none waits, or the buffer is too short for its bytes.
abbrev pub HandsOutNext : (before after : List ℕ) → (old new : FileDiskFields)
    → Result (Option QueuedCall) TooShort → Type 0
HandsOutNext before after old new (Ok (Some call)) = HandsOutCall call before after old new
HandsOutNext before after old new (Ok None) =
    (has_calls old ≡ false) × (new ≡ old) × (after ≡ before)
HandsOutNext before after old new (Err _) =
    (has_calls old ≡ true) × IsTooLong (length before) (queue_of old).waiting
    × (new ≡ old) × (after ≡ before)

-- ---- Cited only by private contracts

-- A compaction is given up: at most the records of its draft are dropped.
pub record HasStopped (old new : QueuedDisk) (next : Option ℕ) : Type 0 where
  pub same : new ≡ record old { batch = new.batch }
  pub idle : next ≡ None → new ≡ old

-- A compaction of a long file has begun. The file has all of the disk.
pub record HasBegun (old new : QueuedDisk) (next : Option ℕ) : Type 0 where
  pub alive : IsAlive old
  pub written : HasWrittenAll old
  pub in_file : opened (seen old.journal.device) ≡ Some (powered (disk_of old.target))
  pub compacts : Compacts old new
  pub short : IsAlive new → IsShort new next

-- What follows a call of the disk: nothing if its file is short, or a compaction begins.
abbrev pub Settles : (old new : QueuedDisk) → (next : Option ℕ) → Type 0
Settles old new next =
    ((new ≡ old) × (next ≡ None) × (IsAlive old → old.journal.length ≤ longest_of old))
    ⊎ HasBegun old new next
