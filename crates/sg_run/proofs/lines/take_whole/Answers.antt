use Rattle.std.proofs.Common.{ap, take, arith}
use Rattle.sg_run.proofs.LineReadingLemmas.{ahead-whole}
use Rattle.sg_run.proofs.lines.take_whole.Goals as goal

pub returns-clause-takes : goal.returns-clause-takes
returns-clause-takes c =
    ahead-whole _ _ _ _ _ c.min-allowed.result _
    (ap (take c.min-allowed.result) c.bytes-ahead.ensures.bytes)
    (omega arith) c.in-Some.ensures c.take_line.ensures.ahead c.take_line.ensures.line
