-- The contents of the header's records for a disk in a file.
use Rattle.std.specs.Prelude.{◌≡◌, ℕ, ◌-◌, ◌^◌, List, Option}
use Rattle.sg_journal.specs.declared.fault.Fault.TheVariants as fault
use Rattle.sg_kept.specs.declared.opening.OpenDiskError.{OpenDiskError}
use Rattle.sg_kept.specs.declared.opening.OpenDiskError.TheVariants.{File, Damaged}
use Rattle.sg_queue.specs.declared.call.CallKind.{CallKind}
use Rattle.sg_queue.specs.declared.call.CallKind.TheVariants.{Write, Cut, Sync, BeginDraft, WriteDraft}
use Rattle.sg_queue.specs.declared.call.CallKind.TheVariants.{Exchange}
use Rattle.sg_queue.specs.declared.call.QueuedCall.{QueuedCall}
use Rattle.sg_embed.specs.declared.file_record.DamageRecord.{DamageRecord}
use Rattle.sg_embed.specs.Executed.{IsHandedOut}
use Rattle.sg_embed.specs.declared.file_record.FileCallRecord.{FileCallRecord}
use Rattle.sg_embed.specs.declared.kept.Kept.{Kept}

abbrev pub damage_at : (batch offset : ℕ) → DamageRecord
damage_at batch offset = record { batch = batch; offset = offset }

-- There is nothing to name.
abbrev pub no_damage : DamageRecord
no_damage = damage_at 0 0

-- In the place of a batch's number: the damage is outside of the records.
abbrev pub outside_records : ℕ
outside_records = 2 ^ 64 - 1

-- Where a file is damaged that was not opened. If its format has another version, the version is in the
-- place of the offset.
abbrev pub damage_of : OpenDiskError → DamageRecord
damage_of (File (fault.OtherVersion version)) = damage_at 0 version
damage_of (File (fault.Damaged at)) = damage_at outside_records at
damage_of (Damaged batch offset) = damage_at batch offset
damage_of error = no_damage

-- The numbers of the header for the kinds of calls on a file.
abbrev pub kind_number : CallKind → ℕ
kind_number Write = 1
kind_number Cut = 2
kind_number Sync = 3
kind_number BeginDraft = 4
kind_number WriteDraft = 5
kind_number Exchange = 6

-- The record of a call on the file of a device.
abbrev pub call_record : QueuedCall → (device : ℕ) → FileCallRecord
call_record call device = record {
  kind = kind_number call.kind;
  place = call.place;
  length = call.length;
  device = device;
}

-- A call is handed out, and a record shows it.
pub record HandsOutAndShows (old new : Option Kept) (before after : List ℕ) (shown : FileCallRecord)
    : Type 0 where
  pub call : QueuedCall
  pub device : ℕ
  pub handed : IsHandedOut old new before after call device
  pub shows : shown ≡ call_record call device
