use Rattle.std.proofs.Common.{ap, take, length, arith}
use Rattle.sg_run.proofs.LineReadingLemmas.{ahead-ends, ahead-goes_on}
use Rattle.sg_run.proofs.lines.take_part.Goals as goal

pub returns-in-Some-clause-takes : goal.returns-in-Some-clause-takes
returns-in-Some-clause-takes c =
    rw (c.skip.ensures, c.extend.ensures)
    (ahead-ends _ _ _ _ c.min-allowed.result _
    (ap (take c.min-allowed.result) c.bytes-ahead.ensures.bytes) (omega arith) c.in-Some.ensures)

pub returns-in-None-clause-takes : goal.returns-in-None-clause-takes
returns-in-None-clause-takes c =
    let same = ap length c.bytes-ahead.ensures.bytes in
    rw (c.skip-in-None.ensures, c.extend-in-None.ensures)
    (ahead-goes_on _ _ _ _ _ (ap (take c.min-allowed.result) c.bytes-ahead.ensures.bytes)
    (omega arith) (omega (arith, same)) (omega (arith, same)) c.in-None.ensures)
