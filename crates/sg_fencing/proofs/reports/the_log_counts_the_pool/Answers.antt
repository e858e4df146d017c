use Rattle.sg_fencing.proofs.ReportLemmas.{pool-counted}
use Rattle.sg_fencing.proofs.reports.the_log_counts_the_pool.Goals as goal

pub returns : goal.returns
returns c = pool-counted
