use Rattle.std.proofs.Common.{rules}
use Rattle.sg_wire.proofs.OneCommandLemmas.{blocks-refused}
use Rattle.sg_wire.proofs.command.Command.read_10.Goals as goal

pub returns-in-Err-clause-it_is_not : goal.returns-in-Err-clause-it_is_not
returns-in-Err-clause-it_is_not c = λ profile extent.
    blocks-refused profile c.args.cdb.now c.in-Err.field-0 extent (search rules) (search rules)
    c.in-Err.ensures.refused
