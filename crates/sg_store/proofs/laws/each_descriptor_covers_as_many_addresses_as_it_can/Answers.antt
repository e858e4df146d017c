use Rattle.sg_store.proofs.ReportLemmas.{covers-most}
use Rattle.sg_store.proofs.laws.each_descriptor_covers_as_many_addresses_as_it_can.Goals as goal

pub returns : goal.returns
returns c = covers-most
