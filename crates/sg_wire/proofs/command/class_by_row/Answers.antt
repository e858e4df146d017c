use Rattle.std.proofs.Common.{◌∙◌, ap, sym}
use Rattle.sg_wire.specs.Table.{class_of_name}
use Rattle.sg_wire.proofs.command.class_by_row.Goals as goal

pub returns-in-StartStopUnit : goal.returns-in-StartStopUnit
returns-in-StartStopUnit c =
    c.class_of.ensures ∙ ap (class_of_name c.args.cdb.now) (sym c.in-StartStopUnit.is)
