use Rattle.std.proofs.Common.{◌∙◌, ◌<◌, None, ap, arith, get_or, length, set}
use Rattle.std.proofs.lemmas.List.{length-set}
use Rattle.std.proofs.lemmas.List.Edits.{fill_by_more}
use Rattle.std.proofs.lemmas.List.FromFn.{fill_by_all}
use Rattle.sg_wire.specs.Initiator.{initiator_count}
use Rattle.sg_units.specs.ReserveOut.{raised_by, raised_for}
use Rattle.sg_units.proofs.raised.Raised.by.Goals as goal

pub loop-number-preserved : goal.loop-number-preserved
loop-number-preserved c =
    let conditions = c.loop-number.conditions in
    let number = c.loop-number.number in
    let now = raised_for c.args.before.now c.args.caller c.args.change.now in
    let e = ap (set conditions number) c.raised_for.ensures in
    let so_far = c.loop-number.invariant.raised_so_far in
    let room : number < length conditions = omega arith in
    record {
      size = omega (arith, length-set conditions number c.raised_for.result);
      raised_so_far =
          λ k h.
          ap (λ xs. get_or xs k None) e ∙ fill_by_more now conditions number None room so_far k h;
    }

pub returns : goal.returns
unfolding raised_by
returns c =
    fill_by_all (raised_for c.args.before.now c.args.caller c.args.change.now) c.loop-number.conditions
    initiator_count None c.loop-number.invariant.size
    (λ k h. c.loop-number.invariant.raised_so_far k (omega arith))
