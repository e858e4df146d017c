use Rattle.std.proofs.Common.{rules, sym}
use Rattle.sg_wire.proofs.TableLemmas.{refused-empty}
use Rattle.sg_wire.proofs.command.Command.read_in.Goals as goal

pub returns-then-is_empty : goal.returns-then-is_empty
returns-then-is_empty c = sym (refused-empty c.args.profile c.args.cdb.now (search rules))
