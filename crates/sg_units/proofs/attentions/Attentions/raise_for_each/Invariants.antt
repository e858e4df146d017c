use Rattle.std.proofs.Common.{◌<◌}
use Rattle.sg_units.specs.Attentions.{ArePending}
use Rattle.sg_units.proofs.AttentionLemmas.{RaisedBelow}
use Rattle.sg_units.proofs.attentions.Attentions.raise_for_each.Given as goal

abbrev pub invariant-loop-number : goal.invariant-loop-number
invariant-loop-number l = record {
  done : RaisedBelow l.fn.self l.raised l.self l.number;
  limits : 0 < l.number → ArePending l.self;
}
