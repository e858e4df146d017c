use Rattle.sg_units.proofs.AttentionLemmas.{ArePending-cleared, ArePending-power_on, ArePending-raised}
use Rattle.sg_units.proofs.AttentionLemmas.{ArePending-without}
use Rattle.sg_units.proofs.AttentionLemmas.{ArePending-raised_one}
use Rattle.sg_units.proofs.laws.queues_keep_their_limits.Goals as goal

pub returns : goal.returns
returns c = record {
  without = ArePending-without;
  cleared = ArePending-cleared;
  one_raised = ArePending-raised_one;
  raised = ArePending-raised;
  power_cycle = ArePending-power_on;
}
