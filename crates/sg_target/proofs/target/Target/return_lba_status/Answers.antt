use Rattle.std.proofs.Common.{rules, ap, ◌∙◌, arith}
use Rattle.sg_target.specs.Target.{TargetFields}
use Rattle.sg_target.proofs.StatusLemmas.{status-carried}
use Rattle.sg_target.proofs.target.Target.return_lba_status.Goals as goal

pub returns : goal.returns
returns g c =
    let begun = c.new-cut.ensures in
    let done = c.status.ensures.data in
    record {
      answer =
          status-carried _ _ _ _ _ _ _ _ _ _ _ (omega arith) c.min-limit.ensures
          (c.restart_counts.ensures.disk ∙ ap (λ (t : TargetFields). t.state.disk) c.self.view_is)
          (c.written.ensures ∙ c.answers_are_in_their_buffers.ensures.written _ _ _ _ _ _ begun done)
          (c.answers_are_in_their_buffers.ensures.left _ _ _ _ _ _ _ begun done (λ e. search rules))
          c.good.ensures;
      state = search rules;
      faults = search rules;
      charge = search rules;
    }
