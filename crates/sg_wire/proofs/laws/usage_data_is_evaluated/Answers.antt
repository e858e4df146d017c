use Rattle.sg_wire.proofs.UsageLemmas.{bit-evaluated, byte-allowed}
use Rattle.sg_wire.proofs.laws.usage_data_is_evaluated.Goals as goal

pub returns : goal.returns
returns c = record { bits = bit-evaluated; allowed = byte-allowed }
