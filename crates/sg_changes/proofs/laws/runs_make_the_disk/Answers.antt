use Rattle.sg_changes.proofs.SnapshotLemmas.{all-below, described, none-below, run-applied, run-used}
use Rattle.sg_changes.proofs.laws.runs_make_the_disk.Goals as goal

pub returns : goal.returns
returns c = record {
  found = described;
  none = none-below;
  one_more = run-applied;
  used = run-used;
  all = all-below;
}
