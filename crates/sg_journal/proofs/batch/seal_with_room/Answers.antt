use Rattle.std.proofs.Common.{take, ◌∙◌, ap, arith}
use Rattle.sg_journal.proofs.Buffers.{kept_front, padded_front}
use Rattle.sg_journal.proofs.Fields.{body_fits}
use Rattle.sg_journal.proofs.batch.seal_with_room.Goals as goal

pub returns-clause-kept : goal.returns-clause-kept
returns-clause-kept c =
    kept_front c.args.len c.seal-size.result c.put_zeros.new.buffer c.seal-size.new.buffer
    (omega (arith, c.seal-size.ensures.size, body_fits c.args.sector c.args.len))
    (ap (take c.seal-size.result) c.put_zeros.ensures
    ∙ padded_front c.seal-size.result c.max-total.result c.seal-size.new.buffer _
    c.seal-size.ensures.within)
    ∙ c.seal-size.ensures.kept
