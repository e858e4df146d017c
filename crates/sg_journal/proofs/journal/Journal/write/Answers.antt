use Rattle.std.proofs.Common.{arith}
use Rattle.sg_journal.proofs.Heads.{sector_within}
use Rattle.sg_journal.proofs.journal.Journal.write.Goals as goal

pub add_next-requires-clause-length : goal.add_next-requires-clause-length
add_next-requires-clause-length g c =
    let within = sector_within c.args.self.now.sector c.requires.batches.2.valid in
    omega (arith, within, c.close.ensures.length, c.requires.length)

pub add_first-requires-clause-length : goal.add_first-requires-clause-length
add_first-requires-clause-length g c =
    let within = sector_within c.args.self.now.sector c.requires.batches.2.valid in
    omega (arith, within, c.close.ensures.length, c.requires.length)
