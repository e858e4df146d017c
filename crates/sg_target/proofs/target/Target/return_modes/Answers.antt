use Rattle.std.proofs.Common.{[], min, rules, ap, sym, ◌∙◌}
use Rattle.sg_pages.specs.declared.mode_pages.mode_sense.TheConstants.{LONGEST_MODE_LIST}
use Rattle.sg_target.specs.ModeCommands.{mode_parameters}
use Rattle.sg_target.specs.MadeReplies.{refused_reply}
use Rattle.sg_target.specs.Step.{sense_format}
use Rattle.sg_target.specs.Target.{TargetFields}
use Rattle.sg_target.specs.declared.refusal.Refusal.{Refusal}
use Rattle.sg_target.proofs.ModeLemmas.{fault-carried, if-fault, if-list, list-carried, nothing-put}
use Rattle.sg_target.proofs.ModeLemmas.{sensed-fault, sensed-list}
use Rattle.sg_target.proofs.target.Target.return_modes.Goals as goal

pub returns-in-Ok : goal.returns-in-Ok
unfolding mode_parameters
returns-in-Ok g c =
    let sensed = sym c.sense.ensures.fault ∙ c.in-Ok.is in
    let s = sensed-list _ _ _ sensed c.sense.ensures.list in
    let short = if-list _ _ _ s.is c.sense.ensures.at_most in
    let cut = c.new-cut.ensures in
    let laws = c.answers_are_in_their_buffers.ensures in
    record {
      answer =
          list-carried _ _ _ _ _ _ _ _ _ (ap (λ (t : TargetFields). t.state.modes) c.self.view_is)
          c.requested.view_is s.list _ _ _
          (c.min-limit.ensures ∙ ap (min LONGEST_MODE_LIST) c.from.ensures) short s.is
          (c.written.ensures ∙ laws.written _ _ _ _ _ _ cut s.has)
          (laws.left _ _ _ _ _ _ _ cut s.has (λ e. search rules)) c.without_blocks.ensures;
      state = search rules;
      faults = search rules;
      charge = search rules;
    }

pub returns-in-Err : goal.returns-in-Err
unfolding mode_parameters
returns-in-Err g c =
    let e = sensed-fault _ _ (sym c.sense.ensures.fault ∙ c.in-Err.is) in
    let none = if-fault _ _ _ e c.sense.ensures.nothing in
    record {
      answer =
          fault-carried _ _ _ _ _ _ _ _ _ (ap (λ (t : TargetFields). t.state.modes) c.self.view_is)
          c.requested.view_is _ _ e
          (c.answers_are_in_their_buffers.ensures.left _ _ _ [] _ _ _ c.new-cut.ensures (none
          ∙ sym (c.parts_are_put_in_turn.ensures.nothing _)) (λ e. search rules) ∙ nothing-put _ _)
          (c.refuse.ensures.reply
          ∙ ap (λ (r : Refusal). refused_reply (sense_format c.args.self.now.state) r c.default.result)
          c.from-in-Err.ensures);
      state = search rules;
      faults = search rules;
      charge = search rules;
    }
