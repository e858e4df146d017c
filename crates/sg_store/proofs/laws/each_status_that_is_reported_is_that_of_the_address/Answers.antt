use Rattle.sg_store.proofs.ReportLemmas.{reports-each}
use Rattle.sg_store.proofs.laws.each_status_that_is_reported_is_that_of_the_address.Goals as goal

pub returns : goal.returns
returns c = reports-each
