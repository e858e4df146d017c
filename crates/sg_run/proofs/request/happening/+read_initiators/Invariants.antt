use Rattle.std.proofs.Common.{length}
use Rattle.sg_run.proofs.request.happening.+read_initiators.Given as goal

abbrev pub decreases-read_initiators : goal.decreases-read_initiators
decreases-read_initiators l = length l.words.now
