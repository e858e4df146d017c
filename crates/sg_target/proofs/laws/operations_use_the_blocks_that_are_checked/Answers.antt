use Rattle.std.proofs.Common.{refl}
use Rattle.sg_target.specs.FaultLaws.{OperationsUseTheBlocksThatAreChecked}
use Rattle.sg_target.specs.declared.operation.Operation.TheVariants as operation
use Rattle.sg_target.proofs.laws.operations_use_the_blocks_that_are_checked.Goals as goal

used : OperationsUseTheBlocksThatAreChecked
used operation.Nothing = refl
used o = refl

pub returns : goal.returns
returns c = used
