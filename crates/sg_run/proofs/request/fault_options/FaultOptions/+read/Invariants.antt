use Rattle.std.proofs.Common.{length}
use Rattle.sg_run.proofs.request.fault_options.FaultOptions.+read.Given as goal

abbrev pub decreases-read : goal.decreases-read
decreases-read l = length l.words.now
