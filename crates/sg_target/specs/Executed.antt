-- What a command has executed, for those who keep what it changes.
use Rattle.std.specs.Prelude.{ℕ, List, Option, Some, None, Result, Ok}
use Rattle.sg_target.specs.Armed.{Armed, attempt_of, step_of_checked}
use Rattle.sg_target.specs.State.{State}
use Rattle.sg_target.specs.declared.operation.Operation.{Operation}
use Rattle.sg_target.specs.declared.refusal.Refusal.{Refusal}
use Rattle.sg_target.specs.declared.reply.Status.{Status}
use Rattle.sg_target.specs.declared.reply.Status.TheVariants.{Good}

-- A fault afterwards may change the answer to an operation that has ended with GOOD. The operation is
-- executed all the same.
abbrev pub executed_if_good : Status → Result Operation Refusal → Option Operation
executed_if_good Good (Ok operation) = Some operation
executed_if_good _ _ = None

-- What becomes of a command after the faults on arrival and at the medium.
abbrev pub executed_by : State → (initiator : ℕ) → Result Operation Refusal → Option Operation
executed_by state initiator tried =
    executed_if_good (step_of_checked state initiator tried).answer.status tried

-- The operation that a CDB with its data-out executes. None if the command is refused.
abbrev pub executed_operation : Armed → (initiator : ℕ) → (cdb data_out : List ℕ) → Option Operation
executed_operation disk initiator cdb data_out =
    executed_by disk.state initiator (attempt_of disk initiator cdb data_out).result
