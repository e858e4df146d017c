use Rattle.std.proofs.Common.{rules, ◌∙◌, subst, sym, ◌≤◌}
use Rattle.sg_tools.proofs.ParameterLemmas.{put-whole, length-whole}
use Rattle.sg_tools.specs.ParameterLists.{max_data_out}
use Rattle.sg_tools.proofs.parameters.Parameters.write.Goals as goal

pub returns-clause-list : goal.returns-clause-list
returns-clause-list c =
    let is = c.answers_are_in_their_buffers.ensures.left _ _ _ _ _ _ _ c.new-cut.ensures
    c.put.ensures.list (λ e. search rules) in
    put-whole _ _ _ _ is c.put.ensures.length

pub returns-clause-length : goal.returns-clause-length
returns-clause-length c =
    let long = c.written.ensures ∙ c.answers_are_in_their_buffers.ensures.written _ _ _ _ _ _
    c.new-cut.ensures c.put.ensures.list in
    length-whole _ _ _ long c.put.ensures.length

pub returns-clause-at_most : goal.returns-clause-at_most
returns-clause-at_most c =
    let long = c.written.ensures ∙ c.answers_are_in_their_buffers.ensures.written _ _ _ _ _ _
    c.new-cut.ensures c.put.ensures.list in
    subst (λ n. n ≤ max_data_out) (sym (length-whole _ _ _ long c.put.ensures.length))
    c.put.ensures.length
