use Rattle.std.proofs.Common.{◌≡◌, ◌-◌, ◌≤◌}
use Rattle.sg_journal.specs.Reads.{TookMore}
use Rattle.sg_journal.proofs.read.skip.Given as goal

abbrev pub invariant-loop-left : goal.invariant-loop-left
invariant-loop-left g l = record {
  within : l.left ≤ l.fn.count;
  took : TookMore g.F.Source.taken g.F.Source.left l.fn.source l.source (l.fn.count - l.left);
  known : g.F.Source.known l.source ≡ g.F.Source.known l.fn.source;
  later : g.F.Source.failures l.fn.source ≤ g.F.Source.failures l.source;
}

abbrev pub decreases-loop-left : goal.decreases-loop-left
decreases-loop-left g l = l.left
