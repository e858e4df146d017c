use Rattle.std.proofs.Common.{sym, ◌∙◌, arith}
use Rattle.sg_tools.specs.Requests.{given_actions}
use Rattle.sg_tools.proofs.ActionLemmas.{one_more, no_more}
use Rattle.sg_tools.proofs.service_action.actions_of.Goals as goal
use Rattle.sg_tools.proofs.service_action.actions_of.Goals.{then-is_set, else-is_set}

pub loop-flag-init : goal.loop-flag-init
unfolding given_actions
loop-flag-init c = record {
  so_far = c.new-actions.ensures;
  few = rw c.new-actions.ensures
      (omega arith);
}

pub loop-flag-preserved : goal.loop-flag-preserved
loop-flag-preserved c =
    let i = c.loop-flag.invariant in
    elim c.if-is_set.branch [
      | then-is_set w ↦ record {
        so_far = rw w.actions-is (w.push.ensures.items
            ∙ rw i.so_far (sym (one_more c.args.options.now c.args.flags.now c.loop-flag.flag-index
            _ c.loop-flag-test.true (sym c.is_set.ensures ∙ w.if-is_set.true))));
        few = rw w.actions-is (let more = w.push.ensures.len in omega (arith, more));
      }
      | else-is_set w ↦ record {
        so_far = rw w.actions-is (i.so_far ∙ sym (no_more c.args.options.now c.args.flags.now
            c.loop-flag.flag-index _ c.loop-flag-test.true (sym c.is_set.ensures
            ∙ w.if-is_set.false)));
        few = rw w.actions-is (omega arith);
      }
    ]
