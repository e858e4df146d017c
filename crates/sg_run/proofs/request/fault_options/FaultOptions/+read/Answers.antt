use Rattle.std.proofs.Common.{rules}
use Rattle.sg_run.proofs.FaultWordLemmas.{operand_first}
use Rattle.sg_run.proofs.request.fault_options.FaultOptions.+read.Goals as goal
use Rattle.sg_run.proofs.request.fault_options.FaultOptions.+read.Goals.{then-words-lt3}
use Rattle.sg_run.proofs.request.fault_options.FaultOptions.+read.Goals.{in-len3-up+else-is_blocks}

pub returns-in-len2-up : goal.returns-in-len2-up
returns-in-len2-up t c =
    elim c.in-len2-up-1.branch [
      | then-words-lt3 w ↦ search (rules, operand_first)
      | in-len3-up+else-is_blocks w ↦ search (rules, operand_first)
    ]
