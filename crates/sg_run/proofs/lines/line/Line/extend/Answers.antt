use Rattle.std.proofs.Common.{rules, arith}
use Rattle.std.proofs.lemmas.List.{places, length-take-le}
use Rattle.std.proofs.lemmas.Slice.{overwrites}
use Rattle.sg_run.proofs.BufferLemmas.{line-fits}
use Rattle.sg_run.proofs.lines.line.Line.extend.Goals as goal

pub returns : goal.returns
returns c = rw (← c.self.view_is)
    (line-fits _ _ _ _ _ _ (length-take-le _ _ (omega arith)) (omega arith) (omega arith)
    (search (rules, overwrites, places)))
