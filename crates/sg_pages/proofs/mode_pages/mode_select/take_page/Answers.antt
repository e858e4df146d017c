use Rattle.std.proofs.Common.{◌≡◌, ◌+◌, ◌-◌, ◌∙◌, List, ℕ, length, take, drop, ap, sym, arith}
use Rattle.std.proofs.lemmas.Result.{err_from_is_err_and}
use Rattle.sg_pages.specs.ModePage.{page_header_length, page_length}
use Rattle.sg_pages.specs.ModeSelect.{first_fault, page_at, pointed_fields, unless_fault}
use Rattle.sg_pages.proofs.PageHeaderLemmas.{sent_values}
use Rattle.sg_pages.proofs.SentPageLemmas.{known-faults, known-values, unknown-page}
use Rattle.sg_pages.proofs.mode_pages.mode_select.take_page.Goals as goal

pub returns-in_err-end-in-Some-clause-result : goal.returns-in_err-end-in-Some-clause-result
returns-in_err-end-in-Some-clause-result c =
    let a = c.args in
    let list = a.list.now in
    let sent = page_at a.offset list in
    let p = err_from_is_err_and c.from_residual.result c.from_residual.ensures.1 in
    let same = known-faults a.profile a.current.now c.in-Some.page a.offset _ _ list
    (sym c.with_first_byte.ensures ∙ c.in-Some.is)
    (c.pointed_fields-fields.ensures
    ∙ ap (pointed_fields a.profile) c.multi_byte_fields.ensures) c.of.ensures.values in
    rw (p.1, p.2) (c.in_err-end-in-Some.ensures.result
    ∙ ap (λ (f : List ℕ). unless_fault (first_fault (length list) f) (a.offset + sent.size)) same)

pub returns-in_ok-end-in-Some-clause-result : goal.returns-in_ok-end-in-Some-clause-result
returns-in_ok-end-in-Some-clause-result c =
    let a = c.args in
    let list = a.list.now in
    let sent = page_at a.offset list in
    let same = known-faults a.profile a.current.now c.in-Some.page a.offset _ _ list
    (sym c.with_first_byte.ensures ∙ c.in-Some.is)
    (c.pointed_fields-fields.ensures
    ∙ ap (pointed_fields a.profile) c.multi_byte_fields.ensures) c.of.ensures.values in
    c.in_ok-end-in-Some.ensures.result
    ∙ ap (λ (f : List ℕ). unless_fault (first_fault (length list) f) (a.offset + sent.size)) same

pub returns-in_ok-end-in-Some-clause-values : goal.returns-in_ok-end-in-Some-clause-values
returns-in_ok-end-in-Some-clause-values c =
    let a = c.args in
    let list = a.list.now in
    let page = c.in-Some.page in
    let k = page_header_length page in
    let n = page_length page in
    let end = c.in_ok-end-in-Some.end in
    let head : length c.header.result.now ≡ k = ap length c.header.ensures in
    let count : end - (a.offset + k) ≡ n = omega (arith, c.in_ok-end-in-Some.ensures.end) in
    let bytes = ap (λ z. take (end - (a.offset + z)) (drop (a.offset + z) list)) head
    ∙ (ap (λ z. take z (drop (a.offset + k) list)) count
    ∙ sym (sent_values a.offset k n list c.in_ok-end-in-Some.ensures.size)) in
    c.set.ensures ∙ known-values a.profile a.values.now page a.offset list _
    (sym c.with_first_byte.ensures ∙ c.in-Some.is) bytes

pub returns-in-None-clause-result : goal.returns-in-None-clause-result
returns-in-None-clause-result c =
    let a = c.args in
    let sent = page_at a.offset a.list.now in
    sym (ap (λ o. unless_fault o (a.offset + sent.size))
    (unknown-page a.profile a.current.now a.offset a.list.now c.requires
    (sym c.with_first_byte.ensures ∙ c.in-None.is)))
