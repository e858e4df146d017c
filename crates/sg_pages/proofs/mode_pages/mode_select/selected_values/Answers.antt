use Rattle.std.proofs.Common.{◌∙◌, ◌+◌, ℕ, length, ap, sym, arith}
use Rattle.std.specs.List.{flat_map}
use Rattle.std.specs.Option.{option_or}
use Rattle.std.proofs.lemmas.Result.{err_from_is_err_and}
use Rattle.sg_pages.specs.ModeSelect.{first_fault, unless_fault, header_length, descriptor_faults}
use Rattle.sg_pages.specs.ModeSelect.{page_faults, pages_in, pages_from, values_after}
use Rattle.sg_pages.proofs.SelectLemmas.{faults-split, selected_values-some, selected_values-inside}
use Rattle.sg_pages.proofs.SentPagesLemmas.{fails, unless-ok, unless-err}
use Rattle.sg_pages.proofs.mode_pages.mode_select.selected_values.Goals as goal

pub returns-in_err-descriptor-clause-values : goal.returns-in_err-descriptor-clause-values
returns-in_err-descriptor-clause-values c =
    let a = c.args in
    let profile = a.profile in
    let p = err_from_is_err_and c.from_residual.result c.from_residual.ensures.1 in
    rw (p.1, p.2) (fails _ _ _ _ _ (faults-split a.current.now a.width a.blocks profile a.list.now)
    (unless-err _ _ _ c.in_err-descriptor.ensures.result)
    ∙ selected_values-some a.current.now a.width a.blocks profile a.list.now
    (grind arith))

pub returns-in_err-check_descriptor-clause-values
    : goal.returns-in_err-check_descriptor-clause-values
returns-in_err-check_descriptor-clause-values c =
    let a = c.args in
    let profile = a.profile in
    let n = length a.list.now in
    let p = err_from_is_err_and c.from_residual-in_err-check_descriptor.result
    c.from_residual-in_err-check_descriptor.ensures.1 in
    let header = unless-ok _ _ _ c.in_ok-descriptor.ensures.result in
    let pages =
    first_fault n (flat_map (page_faults profile a.current.now) (pages_in a.width a.list.now)) in
    let behind = faults-split a.current.now a.width a.blocks profile a.list.now
    ∙ ap (λ o. option_or o (option_or
    (first_fault n (descriptor_faults a.width a.blocks profile a.list.now)) pages)) header.0 in
    rw (p.1, p.2) (fails _ _ _ _ _ behind
    (unless-err _ _ _ c.in_err-check_descriptor.ensures.result)
    ∙ selected_values-some a.current.now a.width a.blocks profile a.list.now
    (grind arith))

pub returns-clause-values : goal.returns-clause-values
returns-clause-values c =
    let a = c.args in
    let profile = a.profile in
    let list = a.list.now in
    let n = length list in
    let header = unless-ok _ _ _ c.in_ok-descriptor.ensures.result in
    let descriptor = unless-ok _ _ _ c.in_ok-check_descriptor.ensures.result in
    let pages = first_fault n (flat_map (page_faults profile a.current.now) (pages_in a.width list)) in
    let behind = faults-split a.current.now a.width a.blocks profile list
    ∙ (ap (λ o. option_or o (option_or
    (first_fault n (descriptor_faults a.width a.blocks profile list)) pages)) header.0
    ∙ ap (λ o. option_or o pages) descriptor.0) in
    let first = ap (λ k. k + c.in_ok-descriptor.descriptor) c.header_length.ensures
    ∙ ap (λ k. header_length a.width + k) header.1 in
    c.take_pages.ensures
    ∙ (ap (λ (k : ℕ). unless_fault (first_fault n
    (flat_map (page_faults profile a.current.now) (pages_from k list)))
    (values_after a.current.now (pages_from k list))) first
    ∙ (sym (ap (λ o. unless_fault o (values_after a.current.now (pages_in a.width list))) behind)
    ∙ selected_values-some a.current.now a.width a.blocks profile list (grind arith)))

pub returns-in_err-descriptor-clause-inside : goal.returns-in_err-descriptor-clause-inside
returns-in_err-descriptor-clause-inside c =
    selected_values-inside c.args.current.now c.args.width c.args.blocks c.args.profile
    c.args.list.now

pub returns-in_err-check_descriptor-clause-inside
    : goal.returns-in_err-check_descriptor-clause-inside
returns-in_err-check_descriptor-clause-inside c =
    selected_values-inside c.args.current.now c.args.width c.args.blocks c.args.profile
    c.args.list.now

pub returns-clause-inside : goal.returns-clause-inside
returns-clause-inside c =
    selected_values-inside c.args.current.now c.args.width c.args.blocks c.args.profile
    c.args.list.now
