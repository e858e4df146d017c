-- Commands that share one flush. Each is executed without its flush, and the caller flushes once for all.
use Rattle.std.specs.Prelude.{◌≡◌, ◌≢◌, ◌⊎◌, ◌≤◌, ◌<◌, ℕ, List, [], ◌∷◌, true, false, not, ◌&&◌, Some}
use Rattle.sg_journal.specs.Device.{LeavesOnly}
use Rattle.sg_journal.specs.JournalState.{has_waiting}
use Rattle.sg_target.specs.Armed.{armed_step}
use Rattle.sg_target.specs.Executed.{executed_operation}
use Rattle.sg_target.specs.Execution.{IsExecuted}
use Rattle.sg_target.specs.Target.{disk_of}
use Rattle.sg_target.specs.declared.call.Call.{Call}
use Rattle.sg_target.specs.declared.event.Event.TheVariants.{Call as Command}
use Rattle.sg_kept.specs.declared.disk.KeptDisk.{KeptDisk}
use Rattle.sg_kept.specs.declared.group_commit.Unflushed.{Unflushed}
use Rattle.sg_kept.specs.Compaction.{IsKeptShort}
use Rattle.sg_kept.specs.Disk.{IsAlive, IsDead, IsUsable, failure_reply, longest_file}
use Rattle.sg_kept.specs.History.{AddsEvents, IsSent}
use Rattle.sg_kept.specs.Kept.{powered}
use Rattle.sg_kept.specs.Opened.{IsBeforeOr, opened}
use Rattle.sg_kept.specs.Owing.{owes_flush}

-- Records wait, in memory or in a batch of the file that does not count yet.
abbrev pub HasUnwritten : {S D : Type 0} → KeptDisk S D → Type 0
HasUnwritten disk = (disk.batch.records ≢ []) ⊎ (has_waiting disk.journal ≡ true)

-- A disk in a file executes a command without its flush, or refuses it because the device has failed.
pub record ExecutesUnflushed {S D : Type 0} (seen : D → List ℕ) (may_leave : D → List ℕ → Type 0)
    (moment : D → ℕ) (left_since : D → ℕ → List ℕ → Type 0) (failures : D → ℕ) (initiator : ℕ)
    (cdb data_out : List ℕ) (result : Unflushed) (before after : List ℕ) (old new : KeptDisk S D)
    : Type 0 where
  -- While the device has not failed, the reply and the disk after it are those of the command.
  pub executed : IsAlive new → IsExecuted initiator cdb data_out (disk_of old.target)
      (disk_of new.target) result.reply before after
  pub usable : IsAlive new → IsUsable seen may_leave new
  -- If the reply does not have to wait, then what the command owes is in the file.
  pub owed : IsAlive new → result.waits ≡ false → owes_flush (disk_of new.target) cdb
      (executed_operation (disk_of old.target) initiator cdb data_out) ≡ true
      → opened (seen new.journal.device) ≡ Some (powered (disk_of new.target))
  -- It has to wait only if the command owes a flush, and records wait for one.
  pub waits : result.waits ≡ true → owes_flush (disk_of new.target) cdb
      (executed_operation (disk_of old.target) initiator cdb data_out) ≡ true
  pub unwritten : result.waits ≡ true → HasUnwritten new
  pub alive : result.waits ≡ true → IsAlive new
  -- The file is short, or it is left to the disk's owner to write it afresh.
  pub short : IsAlive new → IsKeptShort new
  pub compacts : new.compacts ≡ old.compacts
  -- A crash at any moment leaves what the file had, or the disk with this command, after power on.
  pub any_moment : IsAlive old → LeavesOnly moment left_since old.journal.device new.journal.device
      (IsBeforeOr (seen old.journal.device)
      (armed_step (disk_of old.target) initiator cdb data_out).after)
  -- What a crash leaves of this command and of all events before it. If the command owes a flush and its
  -- reply does not have to wait, all of them are in the file from then on.
  pub events : (call : Call) → IsSent call initiator cdb data_out
      → AddsEvents seen moment left_since old new (Command call ∷ [])
      (not result.waits && owes_flush (disk_of new.target) cdb
      (executed_operation (disk_of old.target) initiator cdb data_out))
  -- It fails only if the device does, or if the file is too long. Then it stays dead.
  pub failed : IsDead new → result.reply ≡ failure_reply new.target.state
  pub later : failures old.journal.device ≤ failures new.journal.device
  pub cause : IsAlive old → IsDead new
      → (failures old.journal.device < failures new.journal.device)
      ⊎ (longest_file < old.journal.length)
  pub stays_dead : IsDead old → new ≡ old
