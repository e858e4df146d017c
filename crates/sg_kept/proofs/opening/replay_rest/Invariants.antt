use Rattle.std.proofs.Common.{◌≡◌, ◌<◌, ◌≤◌, ◌+◌, ◌^◌}
use Rattle.sg_kept.specs.Opening.{HasRead, IsSteady}
use Rattle.sg_kept.proofs.opening.replay_rest.Given as goal

abbrev pub invariant-loop-error : goal.invariant-loop-error
invariant-loop-error g l = record {
  read : HasRead g.F.Source.taken g.F.Source.left l.reader l.number l.parts;
  room : l.number + g.F.Source.left l.reader.source < 2 ^ 64;
  known : g.F.Source.known l.reader.source ≡ g.F.Source.known l.fn.reader.source;
  later : g.F.Source.failures l.fn.reader.source ≤ g.F.Source.failures l.reader.source;
  steady : IsSteady l.parts;
  sector : l.batch.sector ≡ l.reader.sector;
}

abbrev pub decreases-loop-error : goal.decreases-loop-error
decreases-loop-error g l = g.F.Source.left l.reader.source
