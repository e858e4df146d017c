use Rattle.std.proofs.Common.{◌∙◌, ◌+◌, length, ap, arith}
use Rattle.sg_wire.specs.Cut.{answer_of}
use Rattle.sg_wire.specs.CutAnswer.{put}
use Rattle.sg_pages.specs.declared.mode_pages.mode_page.PageValues.{PageValues}
use Rattle.sg_pages.specs.ModeSense.{descriptor_data, requested_pages, fields_of}
use Rattle.sg_pages.proofs.ModeSenseLemmas.{list-put, list-short}
use Rattle.sg_pages.proofs.mode_pages.ModePages.write_list.Goals as goal

pub returns-clause-at_most : goal.returns-clause-at_most
returns-clause-at_most c =
    let asked = fields_of c.args.request.now in
    let values = c.selected_by-values.ensures in
    let pages = c.requested_length.ensures.length
    ∙ ap (λ (v : PageValues). length (requested_pages v asked.profile asked.page)) values in
    list-short c.args.self.now asked
    (omega (
      arith,
      c.descriptor_length-descriptor.ensures.length,
      c.descriptor_length-descriptor.ensures.bound,
    ))
    (omega (arith, pages, c.requested_length.ensures.bound))

pub returns-clause-list : goal.returns-clause-list
returns-clause-list c =
    let asked = fields_of c.args.request.now in
    let descriptor = c.descriptor_length-descriptor in
    let values = c.selected_by-values.ensures in
    let following =
    ap (λ n. n + c.requested_length.result) descriptor.ensures.length
    ∙ ap (λ n. length (descriptor_data asked) + n) (c.requested_length.ensures.length
    ∙ ap (λ (v : PageValues). length (requested_pages v asked.profile asked.page)) values) in
    let pages = c.write_requested_pages.ensures
    ∙ ap (λ (v : PageValues). put (answer_of c.write_descriptor.new.cut)
    (requested_pages v asked.profile asked.page)) values in
    list-put c.parts_are_put_in_turn.ensures _ _ _ _ c.args.self.now asked _ _
    descriptor.ensures.length following c.write_header.ensures c.write_descriptor.ensures pages
