use Rattle.sg_target.specs.Charge.{cost_bounds}
use Rattle.sg_target.proofs.ConcludingLemmas.{refused-taken}
use Rattle.sg_target.proofs.target.Target.perform.Goals as goal

pub returns-in-Err : goal.returns-in-Err
returns-in-Err g c =
    let done = c.refuse.ensures in
    refused-taken (cost_bounds g.S.Store.price g.S.Store.least) c.args.initiator c.in-Err.refusal _
    c.args.self.now c.refuse.new.self c.refuse.result c.args.buf.now done.reply c.default.ensures
    done.meter c.args.checked.now c.in-Err.is done.state done.faults
