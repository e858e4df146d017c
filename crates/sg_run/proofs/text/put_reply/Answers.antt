use Rattle.sg_wire.proofs.PrintingLemmas.{Prints-nil, Prints-on}
use Rattle.sg_run.proofs.TextLemmas.{shown-good, shown-none}
use Rattle.sg_run.proofs.text.put_reply.Goals as goal

pub returns-in-Good-clause-text : goal.returns-in-Good-clause-text
returns-in-Good-clause-text g c =
    rw (
      ← c.status_name.ensures,
      ← c.as_slice-2.ensures.value,
      shown-good c.args.reply.now.status c.args.show c.args.data_in.now c.in-Good.is,
    )
    (Prints-on c.put_line_header.ensures
    (Prints-on c.put_reply_sense.ensures c.put_answer.ensures))

pub returns-clause-text : goal.returns-clause-text
returns-clause-text g c =
    rw (
      ← c.status_name.ensures,
      ← c.as_slice-2.ensures.value,
      shown-none c.args.reply.now.status c.args.show c.args.data_in.now c.in_default.not-Good,
    )
    (Prints-on c.put_line_header.ensures
    (Prints-on c.put_reply_sense.ensures (Prints-nil _)))
