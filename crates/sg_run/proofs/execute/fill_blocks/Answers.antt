use Rattle.std.proofs.Common.{◌≡◌, ℕ, List, ap, subst, ◌∙◌}
use Rattle.sg_wire.specs.CdbEncoding.{cdb_of}
use Rattle.sg_target.specs.Armed.{Armed, ArmedStep, armed_step}
use Rattle.sg_tools.specs.declared.show.Show.TheVariants.{Nothing}
use Rattle.sg_run.specs.Outcome.{reply_outcome}
use Rattle.sg_run.specs.Printed.{HasOutcome}
use Rattle.sg_run.proofs.execute.fill_blocks.Goals as goal

-- equal bytes do the same
same-step : (disk : Armed) (i : ℕ) {cdb cdb' data_out data_out' : List ℕ} → cdb ≡ cdb' → data_out ≡
    data_out' → armed_step disk i cdb data_out ≡ armed_step disk i cdb' data_out'
same-step disk i e f j = armed_step disk i (e j) (f j)

pub returns-clause-outcome : goal.returns-clause-outcome
returns-clause-outcome g c works =
    let disk = g.T.DeviceServer.disk in
    let cdb = c.as_slice.ensures.value ∙ (c.write-cdb.ensures.cdb ∙ ap cdb_of c.command.ensures) in
    let same = same-step (disk c.args.target.now) c.args.blocks.now.initiator cdb c.fill_prefix.ensures in
    let Sent : ArmedStep → Type 0 = λ s. HasOutcome g.W.Write.contents c.args.out.now c.send.new.out
    (disk c.send.new.target) c.send.result (reply_outcome c.args.number Nothing s) in
    subst Sent same (c.send.ensures.outcome works)
