use Rattle.std.proofs.Common.{◌∙◌, ◌++◌, ◌+◌, ap, arith, Err}
use Rattle.sg_pages.specs.ModePage.{page_bytes, row_of}
use Rattle.sg_pages.specs.ModeSelect.{ignored_page_header_bits, page_at}
use Rattle.sg_pages.specs.SentValues.{pointed_fault}
use Rattle.sg_pages.proofs.FieldLemmas.{pointed, pointed-ok, pointed-err}
use Rattle.sg_pages.proofs.mode_pages.mode_select.check_page.Goals as goal

pub returns-in-Err-clause-result : goal.returns-in-Err-clause-result
returns-in-Err-clause-result c =
    let a = c.args in
    let list = a.list.now in
    let sent = page_at a.offset list in
    ap Err c.point_to_field.ensures
    ∙ pointed-err _ _ (pointed_fault a.fields.now a.offset) c.in-Err.fault (a.offset + sent.size)
    (pointed a.fields.now (page_bytes a.page a.expected.now)
    (ignored_page_header_bits a.page ++ (row_of a.page).changeable a.profile)
    a.offset sent.size list (omega (arith, c.requires.offset)))
    c.in-Err.ensures.result

pub returns-in-Ok-clause-result : goal.returns-in-Ok-clause-result
returns-in-Ok-clause-result c =
    let a = c.args in
    let list = a.list.now in
    let sent = page_at a.offset list in
    pointed-ok _ _ (pointed_fault a.fields.now a.offset) c.in-Ok.end (a.offset + sent.size)
    (pointed a.fields.now (page_bytes a.page a.expected.now)
    (ignored_page_header_bits a.page ++ (row_of a.page).changeable a.profile)
    a.offset sent.size list (omega (arith, c.requires.offset)))
    c.in-Ok.ensures.result
