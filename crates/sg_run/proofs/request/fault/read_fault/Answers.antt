use Rattle.std.proofs.Common.{arith, sym}
use Rattle.sg_run.proofs.FaultWordLemmas.{no_fault}
use Rattle.sg_run.proofs.request.fault.read_fault.Goals as goal

pub returns-in_default : goal.returns-in_default
returns-in_default c = sym (no_fault c.args.operands.now (omega arith))
