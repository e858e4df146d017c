-- Laws of what is kept.
use Rattle.std.specs.Prelude.{◌≡◌, ◌≤◌, ℕ, List, length, Some, IfOk}
use Rattle.sg_changes.specs.Change.{applied_all}
use Rattle.sg_faults.specs.Faults.{Faults}
use Rattle.sg_kept.specs.Changes.{changes_of, command_changes, happening_changes}
use Rattle.sg_kept.specs.Kept.{kept, powered, restored, without_port}
use Rattle.sg_store.specs.Disk.{block_length}
use Rattle.sg_target.specs.Armed.{Armed, armed_step}
use Rattle.sg_target.specs.BlockCommands.{bytes_of}
use Rattle.sg_target.specs.Executed.{executed_operation}
use Rattle.sg_target.specs.Extents.{AreOnDisk}
use Rattle.sg_target.specs.Runs.{armed_after_happening}
use Rattle.sg_target.specs.Semantics.{effect_of, medium_use}
use Rattle.sg_target.specs.State.{IsWithinLimits, State}
use Rattle.sg_target.specs.declared.happening.Happening.{Happening}
use Rattle.sg_target.specs.declared.operation.Operation.{Operation}
use Rattle.sg_target.specs.declared.operation.Operation.TheVariants.{Write, OrWrite}
use Rattle.sg_target.specs.declared.operation.Operation.TheVariants.{CompareAndWrite, Fill}

-- What is kept decides the disk after a power cycle. A power cycle keeps it, and a second one changes
-- nothing.
pub record PowerCyclesLeaveWhatIsKept : Type 0 where
  pub restored : (disk : Armed) → restored (kept disk) ≡ powered disk
  pub kept : (disk : Armed) → kept (powered disk) ≡ kept disk
  pub twice : (disk : Armed) → powered (powered disk) ≡ powered disk

-- An operation has the bytes of all its blocks, as each has that passes the checks of its command.
abbrev pub HasItsBytes : Operation → Type 0
HasItsBytes (Write out) = length out.bytes ≡ bytes_of out.extent
HasItsBytes (CompareAndWrite exchange) = bytes_of exchange.extent ≤ length exchange.replacement
HasItsBytes (OrWrite out) = length out.bytes ≡ bytes_of out.extent
HasItsBytes (Fill extent block) = length block ≡ block_length
HasItsBytes _ = Unit

abbrev armed : State → Faults → Armed
armed state faults = record { state = state; faults = faults }

-- What is kept after an operation is what its changes make of what was kept before it. Its blocks are on
-- the disk, and the state after it passes no limit.
abbrev pub OperationsMakeTheirChanges : Type 0
OperationsMakeTheirChanges =
    (state : State) (faults : Faults) (initiator : ℕ) (operation : Operation)
    → HasItsBytes operation → AreOnDisk state.disk.capacity (medium_use operation).extents
    → IfOk (effect_of state initiator operation) (λ effect. IsWithinLimits effect.after
    → applied_all (kept (armed state faults)) (changes_of effect.after operation)
    ≡ Some (kept (armed effect.after faults)))

-- What is kept after a command is what its changes make of what was kept before it. Any faults may be
-- armed, and the state before it passes no limit.
abbrev pub CommandsMakeTheirChanges : Type 0
CommandsMakeTheirChanges =
    (disk : Armed) (initiator : ℕ) (cdb data_out : List ℕ) → IsWithinLimits disk.state
    → let after = (armed_step disk initiator cdb data_out).after in
    applied_all (kept disk)
    (command_changes disk after (executed_operation disk initiator cdb data_out))
    ≡ Some (kept after)

-- What is kept after a happening is what its changes make of what was kept before it.
abbrev pub HappeningsMakeTheirChanges : Type 0
HappeningsMakeTheirChanges =
    (disk : Armed) (happening : Happening) → let after = armed_after_happening disk happening in
    applied_all (kept disk) (happening_changes disk after happening) ≡ Some (kept after)

-- A port that is gone changes nothing that is kept. A power cycle leaves the same disk with the port and
-- without it.
pub record GonePortsChangeNothingKept : Type 0 where
  pub kept : (disk : Armed) (initiator : ℕ) → kept (without_port disk initiator) ≡ kept disk
  pub powered : (disk : Armed) (initiator : ℕ) → powered (without_port disk initiator) ≡ powered disk
