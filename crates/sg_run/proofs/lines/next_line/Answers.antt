use Rattle.std.proofs.KnownBytes.{Consumes-nil}
use Rattle.sg_run.proofs.LineReadingLemmas.{part-starts, part-ends}
use Rattle.sg_run.proofs.lines.next_line.Goals as goal

pub returns-then-take_whole-clause-takes : goal.returns-then-take_whole-clause-takes
returns-then-take_whole-clause-takes g c = (
  part-ends _ _ _ _ _ _ _ _ _ _ (part-starts _ _) (Consumes-nil _) c.if-take_whole.ensures.takes,
  c.requires,
)

pub returns-then-take_part-clause-takes : goal.returns-then-take_part-clause-takes
returns-then-take_part-clause-takes g c =
    let r = c.in_ok-refill.ensures.refills in
    (part-ends _ _ _ _ _ _ _ _ _ _ c.loop-read_ahead.invariant.part r.0 c.if-take_part.ensures.takes, r.3)
