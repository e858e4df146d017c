use Rattle.std.proofs.Common.{subst}
use Rattle.sg_wire.proofs.TableLemmas.{no-row}
use Rattle.sg_wire.specs.Table.{IsFound}
use Rattle.sg_wire.specs.declared.command.table.Found.{Found}
use Rattle.sg_wire.specs.declared.profile.Profile.TheVariants.{Extended}
use Rattle.sg_wire.proofs.command.table.row_in.Goals as goal

pub returns-in-NoOpcode : goal.returns-in-NoOpcode
returns-in-NoOpcode c =
    no-row c.args.profile c.args.cdb.now
    (subst (λ (found : Found). IsFound Extended c.args.cdb.now found) c.in-NoOpcode.is c.row_of.ensures)
