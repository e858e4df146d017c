-- What a disk in memory and its file have in common.
use Rattle.std.specs.Prelude.{◌≡◌, ◌^◌, ℕ, List, [], ◌∷◌, ◌++◌, length, true, false, None, Some}
use Rattle.sg_changes.specs.KeptFields.{KeptFields}
use Rattle.sg_journal.specs.BatchValue.{BatchValue}
use Rattle.sg_journal.specs.JournalState.{HasBatches}
use Rattle.sg_journal.specs.declared.journal.Journal.{Journal}
use Rattle.sg_faults.specs.SenseCode.{sense_code}
use Rattle.sg_faults.specs.declared.sense_code.SenseKey.TheVariants.{HardwareError}
use Rattle.sg_store.specs.Meter.{no_counts}
use Rattle.sg_target.specs.Armed.{Armed}
use Rattle.sg_target.specs.MadeReplies.{refused_reply}
use Rattle.sg_target.specs.State.{IsWithinLimits, State}
use Rattle.sg_target.specs.Step.{sense_format}
use Rattle.sg_target.specs.Target.{disk_of}
use Rattle.sg_target.specs.declared.refusal.Reason.TheVariants.{Fault}
use Rattle.sg_target.specs.declared.refusal.Refusal.TheVariants.{CheckCondition}
use Rattle.sg_target.specs.declared.reply.Reply.{Reply}
use Rattle.sg_kept.specs.declared.disk.KeptDisk.{KeptDisk}
use Rattle.sg_kept.specs.Kept.{kept}
use Rattle.sg_kept.specs.Opened.{filed, replayed_all}
use Rattle.sg_kept.specs.Recording.{HasRoom, longest_write}

-- The file stands for batches, whatever a crash makes of it. The batches that wait in the file, and the
-- records of the batch in memory, lead from what those batches leave to what is kept of the disk in memory.
pub record IsKept {D : Type 0} (seen : D → List ℕ) (may_leave : D → List ℕ → Type 0)
    (journal : Journal D) (batch : BatchValue) (disk : Armed) : Type 0 where
  pub batches : List (List ℕ)
  pub waiting : List (List ℕ)
  pub stands : HasBatches seen may_leave journal batches waiting
  pub left : KeptFields
  pub files : filed batches ≡ Some left
  pub waits : replayed_all (waiting ++ batch.records ∷ []) left ≡ Some (kept disk)
  pub sector : batch.sector ≡ journal.sector
  pub limits : IsWithinLimits disk.state

-- A disk whose device has not failed.
abbrev pub IsAlive : {S D : Type 0} → KeptDisk S D → Type 0
IsAlive disk = disk.is_dead ≡ false

abbrev pub IsDead : {S D : Type 0} → KeptDisk S D → Type 0
IsDead disk = disk.is_dead ≡ true

-- A disk and its file, between two commands.
pub record IsUsable {S D : Type 0} (seen : D → List ℕ) (may_leave : D → List ℕ → Type 0)
    (disk : KeptDisk S D) : Type 0 where
  pub kept : IsKept seen may_leave disk.journal disk.batch (disk_of disk.target)
  pub room : HasRoom disk.batch
  pub scratch : length disk.scratch.items ≡ longest_write

-- The longest file that is written to, in bytes.
abbrev pub longest_file : ℕ
longest_file = 2 ^ 60

-- CHECK CONDITION, HARDWARE ERROR, INTERNAL TARGET FAILURE (SPC-4, 4.5.6).
abbrev pub failure_reply : State → Reply
failure_reply state =
    refused_reply (sense_format state) (CheckCondition (Fault (sense_code HardwareError 0x44 0x00) None))
    no_counts
