-- What serves a disk. In memory the base profile is served over runs, and the extended one over extents. A
-- disk in a file is over extents in each profile.
use Rattle.std.specs.Prelude.{◌≡◌, ℕ, Bool, false, true, List, Option, None, Some, Result, Ok}
use Rattle.sg_wire.specs.Profile.{limits_of}
use Rattle.sg_wire.specs.declared.profile.Profile.{Profile}
use Rattle.sg_wire.specs.declared.profile.Profile.TheVariants.{Base, Extended}
use Rattle.sg_block_map.specs.RunCost.{block_price, block_least}
use Rattle.sg_extent_map.specs.ExtentCost.{extent_price, extent_least}
use Rattle.sg_kept.specs.Disk.{failure_reply}
use Rattle.sg_queue.specs.NextCall.{IsTooLong}
use Rattle.sg_queue.specs.declared.call.QueuedCall.{QueuedCall}
use Rattle.sg_queue.specs.declared.queue.TooShort.{TooShort}
use Rattle.sg_target.specs.Charge.{ChargesCommand, CostBounds, cost_bounds}
use Rattle.sg_target.specs.Execution.{IsExecuted}
use Rattle.sg_target.specs.Happenings.{Happens}
use Rattle.sg_target.specs.Ports.{Forgets}
use Rattle.sg_target.specs.State.{profile_of}
use Rattle.sg_target.specs.Target.{TargetFields, disk_of}
use Rattle.sg_target.specs.declared.happening.Happening.{Happening}
use Rattle.sg_target.specs.declared.reply.Reply.{Reply}
use Rattle.sg_embed.specs.FileDisk.{ExecutesInFile, FileDiskFields, FlushesFile, ForgetsInFile}
use Rattle.sg_embed.specs.FileDisk.{HandsOutNext, HappensInFile, failed_disk, has_calls, queue_of}
use Rattle.sg_embed.specs.FileDisk.{target_in}
use Rattle.sg_embed.specs.declared.served.Served.{Served}
use Rattle.sg_embed.specs.declared.served.Served.TheVariants.{Runs, Extents, InFile}

-- The target in memory, whatever serves it.
abbrev pub target_of : Served → TargetFields
target_of (Runs target) = target
target_of (Extents target) = target
target_of (InFile disk) = target_in disk

-- The number of the initiators that send commands.
abbrev pub initiators_of : Served → ℕ
initiators_of served = (limits_of (profile_of (target_of served).state)).initiators

-- A target of a profile, over the store that serves it in memory.
abbrev pub served_in : Profile → TargetFields → Served
served_in Base target = Runs target
served_in Extended target = Extents target

-- Calls on the disk's file wait.
abbrev pub calls_wait : Served → Bool
calls_wait (Runs target) = false
calls_wait (Extents target) = false
calls_wait (InFile disk) = has_calls disk

-- The disk's file has failed.
abbrev pub is_dead : Served → Bool
is_dead (Runs target) = false
is_dead (Extents target) = false
is_dead (InFile disk) = disk.kept.is_dead

-- The oldest call that waits has more bytes than a buffer has room for.
abbrev pub NeedsMore : (room : ℕ) → Served → Type 0
NeedsMore room (InFile disk) = (has_calls disk ≡ true) × IsTooLong room (queue_of disk).waiting
NeedsMore room served = ⊥

-- What C calls the device of the disk's file, if the disk is in a file.
abbrev pub device_of : Served → Option ℕ
device_of (Runs target) = None
device_of (Extents target) = None
device_of (InFile disk) = Some disk.device

-- What a call of a store may and must visit.
abbrev pub run_bounds : CostBounds
run_bounds = cost_bounds block_price block_least

abbrev pub extent_bounds : CostBounds
extent_bounds = cost_bounds extent_price extent_least

-- Something happens to a disk: to a target in memory, which stays over its store, or to a disk in a file.
abbrev pub StaysServed : (in_memory : CostBounds → (old new : TargetFields) → Type 0)
    → (in_file : (old new : FileDiskFields) → Type 0) → (old new : Served) → Type 0
StaysServed in_memory in_file (Runs old) (Runs new) = in_memory run_bounds old new
StaysServed in_memory in_file (Extents old) (Extents new) = in_memory extent_bounds old new
StaysServed in_memory in_file (InFile old) (InFile new) = in_file old new
StaysServed in_memory in_file _ _ = ⊥

abbrev pub Undergoes : Happening → (old new : Served) → Type 0
Undergoes happening = StaysServed (λ bounds. Happens happening) (HappensInFile happening)

abbrev pub ForgetsPort : (initiator : ℕ) → (old new : Served) → Type 0
ForgetsPort initiator = StaysServed (λ bounds. Forgets initiator) (ForgetsInFile initiator)

-- A target executes a command, and its store is charged for it. There is no file that its reply has to
-- wait for.
pub record ExecutesCommand (bounds : CostBounds) (initiator : ℕ) (cdb data_out : List ℕ) (reply : Reply)
    (waits : Bool) (before after : List ℕ) (old new : TargetFields) : Type 0 where
  pub executed : IsExecuted initiator cdb data_out (disk_of old) (disk_of new) reply before after
  pub charged : ChargesCommand bounds initiator cdb data_out old new reply
  pub at_once : waits ≡ false

abbrev pub Executes : (initiator : ℕ) → (cdb data_out : List ℕ) → Reply → (waits : Bool)
    → (before after : List ℕ) → (old new : Served) → Type 0
Executes initiator cdb data_out reply waits before after = StaysServed
    (λ bounds. ExecutesCommand bounds initiator cdb data_out reply waits before after)
    (ExecutesInFile initiator cdb data_out reply waits before after)

-- ---- The calls on a disk's file. A disk in memory stays as it is.

abbrev pub Flushes : (old new : Served) → (result : Bool) → Type 0
Flushes (InFile old) (InFile new) result = FlushesFile old new × (result ≡ true)
Flushes (InFile old) new result = ⊥
Flushes old new result = (new ≡ old) × (result ≡ false)

-- The reply is that of the disk to each command from then on.
abbrev pub Fails : (old new : Served) → Option Reply → Type 0
Fails (InFile old) new result =
    (new ≡ InFile (failed_disk old)) × (result ≡ Some (failure_reply (target_in old).state))
Fails old new result = (new ≡ old) × (result ≡ None)

abbrev pub HandsOut : (before after : List ℕ) → (old new : Served) → Result (Option QueuedCall) TooShort
    → Type 0
HandsOut before after (InFile old) (InFile new) result = HandsOutNext before after old new result
HandsOut before after (InFile old) new result = ⊥
HandsOut before after old new result = (new ≡ old) × (after ≡ before) × (result ≡ Ok None)
