use Rattle.std.proofs.Common.{min, length, ap, rules, ◌∙◌}
use Rattle.sg_wire.specs.FirstBytes.{overwritten}
use Rattle.sg_target.proofs.LengthLemmas.{cut-at}
use Rattle.sg_target.proofs.data_in.DataIn.write_up_to.Goals as goal

pub returns-clause-length : goal.returns-clause-length
returns-clause-length c =
    let limit = c.min-limit.ensures
    ∙ ap (λ m. min m c.args.allocation_length) c.longest.ensures in
    c.written.ensures
    ∙ (c.answers_are_in_their_buffers.ensures.written _ _ _ _ _ _ c.new-cut.ensures
    c.write.ensures.data
    ∙ ap length (cut-at _ _ _ _ limit c.write.ensures.at_most))

pub returns-clause-data_in : goal.returns-clause-data_in
returns-clause-data_in c =
    let limit = c.min-limit.ensures
    ∙ ap (λ m. min m c.args.allocation_length) c.longest.ensures in
    c.answers_are_in_their_buffers.ensures.left _ _ _ _ _ _ _ c.new-cut.ensures c.write.ensures.data
    (λ e. search rules)
    ∙ ap (λ put. overwritten put c.args.buf.now) (cut-at _ _ _ _ limit c.write.ensures.at_most)
