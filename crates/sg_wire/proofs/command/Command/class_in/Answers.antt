use Rattle.std.proofs.Common.{Some, ap, refl}
use Rattle.sg_wire.proofs.TableLemmas.{class_in-found}
use Rattle.sg_wire.proofs.command.Command.class_in.Goals as goal

pub returns-in-Row : goal.returns-in-Row
returns-in-Row c =
    rw (class_in-found c.args.profile c.args.cdb.now c.row_in.result c.row_in.ensures, c.in-Row.is)
    (ap Some c.class_by_row.ensures)

pub returns-in-NoServiceAction : goal.returns-in-NoServiceAction
returns-in-NoServiceAction c =
    rw (
      class_in-found c.args.profile c.args.cdb.now c.row_in.result c.row_in.ensures,
      c.in-NoServiceAction.is,
    ) refl

pub returns-in-NoOpcode : goal.returns-in-NoOpcode
returns-in-NoOpcode c =
    rw (class_in-found c.args.profile c.args.cdb.now c.row_in.result c.row_in.ensures, c.in-NoOpcode.is) refl
