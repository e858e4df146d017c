use Rattle.sg_wire.proofs.ReadsBackLemmas.{is_read-back}
use Rattle.sg_wire.proofs.command.Command.write.Goals as goal

pub returns-clause-reads_back : goal.returns-clause-reads_back
returns-clause-reads_back c = rw c.encode.ensures.cdb (is_read-back c.args.self.now c.encode.ensures.fits)
