use Rattle.sg_changes.proofs.ReplayLemmas.{replayed_append, replayed_push, replayed_records}
use Rattle.sg_changes.proofs.laws.records_are_replayed.Goals as goal

pub returns : goal.returns
returns c = record { all = replayed_records; one_more = replayed_push; joined = replayed_append }
