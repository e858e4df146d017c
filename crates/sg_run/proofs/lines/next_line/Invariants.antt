use Rattle.std.proofs.Common.{◌≡◌, false}
use Rattle.sg_wire.specs.Watched.{has_failed}
use Rattle.sg_run.specs.LineReading.{TakesPart, to_come}
use Rattle.sg_run.proofs.lines.next_line.Given as goal

-- the bytes that were taken so far are part of a line
abbrev pub invariant-loop-read_ahead : goal.invariant-loop-read_ahead
invariant-loop-read_ahead g l = record {
  part : TakesPart (to_come g.R.Read.remaining l.fn.read_ahead.ahead l.fn.reader)
      (to_come g.R.Read.remaining l.read_ahead.ahead l.reader) l.line l.fn.left l.left;
  start : l.before ≡ l.fn.left;
  sound : has_failed l.reader ≡ false;
}

abbrev pub decreases-loop-read_ahead : goal.decreases-loop-read_ahead
decreases-loop-read_ahead g l = l.left
