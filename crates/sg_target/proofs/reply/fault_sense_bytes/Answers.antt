use Rattle.std.proofs.Common.{None}
use Rattle.sg_target.specs.declared.refusal.Reason.TheVariants.{Fault}
use Rattle.sg_target.proofs.SenseLemmas.{reason-short}
use Rattle.sg_target.proofs.reply.fault_sense_bytes.Goals as goal

pub sense_bytes-requires : goal.sense_bytes-requires
sense_bytes-requires c = rw c.sense.ensures (reason-short c.args.format (Fault c.args.code None))
