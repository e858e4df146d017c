-- The effects of the calls on a disk.
use Rattle.std.specs.Prelude.{◌≡◌, ℕ, Bool, false, true, List, Option, None, Some, unwrap_or}
use Rattle.sg_faults.specs.Faults.{no_faults}
use Rattle.sg_pages.specs.Identity.{IdentityFields}
use Rattle.sg_store.specs.Meter.{new_meter}
use Rattle.sg_units.specs.Registrations.{registered_mask}
use Rattle.sg_queue.specs.declared.call.QueuedCall.{QueuedCall}
use Rattle.sg_target.specs.Config.{ConfigFields}
use Rattle.sg_target.specs.NewState.{new_state}
use Rattle.sg_target.specs.declared.reply.Reply.{Reply}
use Rattle.sg_embed.specs.declared.kept.Kept.{Kept}
use Rattle.sg_embed.specs.Records.{Shows}
use Rattle.sg_embed.specs.Ends.{ends, unflushed_outcome}
use Rattle.sg_embed.specs.FileDisk.{FileDiskFields, HandsOutCall}
use Rattle.sg_embed.specs.Served.{Executes, Fails, Flushes, ForgetsPort, Undergoes, calls_wait}
use Rattle.sg_embed.specs.Served.{NeedsMore, device_of, served_in, target_of}
use Rattle.sg_target.specs.declared.happening.Happening.{Happening}
use Rattle.sg_embed.specs.declared.outcome.Outcome.{Outcome}
use Rattle.sg_embed.specs.declared.outcome.Outcome.TheVariants.{BufferTooShort, Done, NoCall, NoDisk}
use Rattle.sg_embed.specs.declared.served.Served.{Served}
use Rattle.sg_embed.specs.declared.served.Served.TheVariants.{InFile}
use Rattle.sg_embed.specs.declared.record.ReplyRecord.{ReplyRecord}

-- The configuration that a disk is made with.
abbrev pub disk_config : (blocks pool : ℕ) → IdentityFields → ConfigFields
disk_config blocks pool identity = record { blocks = blocks; pool = pool; identity = identity }

-- A disk as it is after power on. No fault is armed.
abbrev pub new_target : ConfigFields → Served
new_target config = served_in config.identity.profile (record {
  state = new_state config;
  faults = no_faults;
  meter = new_meter;
})

abbrev pub new_disk : ConfigFields → Kept
new_disk config = record { target = new_target config }

-- There was a disk, and something happens to its target.
pub record HappensToDisk (event : (old new : Served) → Type 0) (old new : Option Kept) : Type 0
  where
    pub disk : Kept
    pub left : Kept
    pub was : old ≡ Some disk
    pub is : new ≡ Some left
    pub happened : event disk.target left.target

-- The disk is as what happened leaves it.
abbrev pub HasUndergone : Happening → (old new : Option Kept) → Type 0
HasUndergone happening = HappensToDisk (Undergoes happening)

-- The disk has forgotten an initiator's port.
abbrev pub IsForgotten : (initiator : ℕ) → (old new : Option Kept) → Type 0
IsForgotten initiator = HappensToDisk (ForgetsPort initiator)

-- The mask of a disk's registrants, if there is a disk.
abbrev pub registrants : Option Kept → Option ℕ
registrants None = None
registrants (Some disk) =
    Some (registered_mask (target_of disk.target).state.reservations.registrations)

-- A command is executed, and a record shows the reply, which may have to wait for a flush.
pub record IsAnswered (initiator : ℕ) (cdb data_out : List ℕ) (waits : Bool) (old new : Option Kept)
    (before after : List ℕ) (shown : ReplyRecord) : Type 0 where
  pub reply : Reply
  pub executed : HappensToDisk (Executes initiator cdb data_out reply waits before after) old new
  pub shows : Shows shown reply

-- A command is executed without its flush. The outcome reports whether the reply has to wait for one.
pub record IsAnsweredUnflushed (initiator : ℕ) (cdb data_out : List ℕ) (old new : Option Kept)
    (before after : List ℕ) (shown : ReplyRecord) (outcome : Outcome) : Type 0 where
  pub waits : Bool
  pub answered : IsAnswered initiator cdb data_out waits old new before after shown
  pub reports : outcome ≡ ends Done (unflushed_outcome waits) new

-- Nothing changes: no disk, no buffer, no record.
pub record IsUnchanged (old new : Option Kept) (before after : List ℕ) (was is : ReplyRecord) : Type 0
  where
    pub kept : new ≡ old
    pub untouched : after ≡ before
    pub silent : is ≡ was

-- ---- The calls on a disk's file

-- All that was changed is written to the file.
abbrev pub IsFlushed : (old new : Option Kept) → Type 0
IsFlushed = HappensToDisk (λ old new. Flushes old new true)

-- The file has failed, and a record shows the reply of the disk to each command from now on.
pub record HasFailed (old new : Option Kept) (shown : ReplyRecord) : Type 0 where
  pub reply : Reply
  pub failed : HappensToDisk (λ old new. Fails old new (Some reply)) old new
  pub shows : Shows shown reply

-- A call is handed out, with what C calls the file's device.
pub record IsHandedOut (old new : Option Kept) (before after : List ℕ) (call : QueuedCall) (device : ℕ)
    : Type 0 where
  pub disk : FileDiskFields
  pub left : FileDiskFields
  pub was : old ≡ Some (record { target = InFile disk })
  pub is : new ≡ Some (record { target = InFile left })
  pub oldest : HandsOutCall call before after disk left
  pub same : device ≡ disk.device

-- The disk that there is.
pub record HasDisk (held : Option Kept) (P : Served → Type 0) : Type 0 where
  pub disk : Kept
  pub is : held ≡ Some disk
  pub has : P disk.target

-- Why no call is handed out.
abbrev pub IsNoCall : Option Kept → (room : ℕ) → Outcome → Type 0
IsNoCall held room NoDisk = held ≡ None
IsNoCall held room NoCall = HasDisk held (λ served. calls_wait served ≡ false)
IsNoCall held room BufferTooShort = HasDisk held (λ served. NeedsMore room served)
IsNoCall held room outcome = ⊥

-- What C calls the device of the disk's file. It is 0 if there is no disk, or if the disk is not in a file.
abbrev pub device_number : Option Kept → ℕ
device_number None = 0
device_number (Some disk) = unwrap_or (device_of disk.target) 0
