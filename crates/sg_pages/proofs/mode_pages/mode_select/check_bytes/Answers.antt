use Rattle.std.proofs.Common.{◌≡◌, ◌+◌, ◌∙◌, length, ap, arith, Ok}
use Rattle.std.proofs.lemmas.Result.{err_from_is_err_and}
use Rattle.sg_pages.specs.ModePage.{values_of}
use Rattle.sg_pages.specs.ModeSelect.{page_at}
use Rattle.sg_pages.specs.declared.mode_pages.mode_page.PageValues.{PageValues}
use Rattle.sg_pages.proofs.PageHeaderLemmas.{read-length, read-split}
use Rattle.sg_pages.proofs.SentPageLemmas.{changeable-row, first-fails, second-fails, both-pass}
use Rattle.sg_pages.proofs.mode_pages.mode_select.check_bytes.Goals as goal

pub returns-in_err-check-clause-result : goal.returns-in_err-check-clause-result
returns-in_err-check-clause-result c =
    let a = c.args in
    let list = a.list.now in
    let p = err_from_is_err_and c.from_residual.result c.from_residual.ensures.1 in
    let split = read-split a.offset a.page list c.header-header.result.now c.ignored_in_header.result.now
    c.requires.first c.header-header.ensures c.ignored_in_header.ensures a.profile (length list)
    a.expected.now c.of-changeable.result.now
    (changeable-row a.profile a.page _ (c.of-changeable.ensures.values
    ∙ ap (λ (b : PageValues). values_of b a.page) c.changeable_bits.ensures))
    c.requires.expected in
    rw (p.1, p.2) (first-fails _ _ _ _ _ split c.in_err-check.ensures.result)

pub returns-in_err-check-2-clause-result : goal.returns-in_err-check-2-clause-result
returns-in_err-check-2-clause-result c =
    let a = c.args in
    let list = a.list.now in
    let exit = c.from_residual-in_err-check-2 in
    let p = err_from_is_err_and exit.result exit.ensures.1 in
    let split = read-split a.offset a.page list c.header-header.result.now c.ignored_in_header.result.now
    c.requires.first c.header-header.ensures c.ignored_in_header.ensures a.profile (length list)
    a.expected.now c.of-changeable.result.now
    (changeable-row a.profile a.page _ (c.of-changeable.ensures.values
    ∙ ap (λ (b : PageValues). values_of b a.page) c.changeable_bits.ensures))
    c.requires.expected in
    rw (p.1, p.2) (second-fails _ _ _ _ _ split c.in_ok-check.ensures.result
    c.in_err-check-2.ensures.result)

pub returns-clause-result : goal.returns-clause-result
returns-clause-result c =
    let a = c.args in
    let list = a.list.now in
    let head = c.header-header.result.now in
    let header = c.in_ok-check.ensures in
    let split = read-split a.offset a.page list head c.ignored_in_header.result.now c.requires.first
    c.header-header.ensures c.ignored_in_header.ensures a.profile (length list)
    a.expected.now c.of-changeable.result.now
    (changeable-row a.profile a.page _ (c.of-changeable.ensures.values
    ∙ ap (λ (b : PageValues). values_of b a.page) c.changeable_bits.ensures))
    c.requires.expected in
    let size = read-length a.offset a.page list head c.ignored_in_header.result.now c.requires.first
    c.header-header.ensures c.ignored_in_header.ensures header.whole header.same in
    let end : a.offset + length head + length a.expected.now ≡ a.offset + (page_at a.offset list).size =
    omega (arith, size, ap length c.header-header.ensures, c.requires.expected) in
    ap Ok end ∙ both-pass _ _ _ _ split header.result c.in_ok-check-2.ensures.result

pub returns-clause-size : goal.returns-clause-size
returns-clause-size c =
    let a = c.args in
    let header = c.in_ok-check.ensures in
    read-length a.offset a.page a.list.now c.header-header.result.now c.ignored_in_header.result.now
    c.requires.first c.header-header.ensures c.ignored_in_header.ensures header.whole header.same
