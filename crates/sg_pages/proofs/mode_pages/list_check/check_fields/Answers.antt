use Rattle.std.proofs.Common.{◌∙◌, ap, Err}
use Rattle.sg_pages.specs.SentValues.{pointed_fault}
use Rattle.sg_pages.proofs.FieldLemmas.{pointed, pointed-err}
use Rattle.sg_pages.proofs.mode_pages.list_check.check_fields.Goals as goal

pub returns-in-Err-clause-result : goal.returns-in-Err-clause-result
returns-in-Err-clause-result c =
    let a = c.args in
    ap Err c.point_to_field.ensures
    ∙ pointed-err _ _ (pointed_fault a.fields.now a.offset) c.in-Err.fault tt
    (pointed a.fields.now a.expected.now a.ignored.now a.offset a.size a.list.now c.requires.offset)
    c.in-Err.ensures.result
