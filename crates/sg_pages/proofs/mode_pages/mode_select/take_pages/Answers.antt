use Rattle.std.proofs.Common.{◌+◌, ◌∙◌, length, ap, sym}
use Rattle.std.specs.List.{flat_map}
use Rattle.std.specs.Option.{option_or}
use Rattle.std.proofs.lemmas.Result.{err_from_is_err_and}
use Rattle.sg_pages.specs.declared.mode_pages.mode_page.PageValues.{PageValues}
use Rattle.sg_pages.specs.ModeSelect.{first_fault, page_at, pages_from, page_faults, values_after}
use Rattle.sg_pages.proofs.SentPagesLemmas.{next-faults, next-values, unless-ok, unless-err, fails}
use Rattle.sg_pages.proofs.SentPagesLemmas.{no-page}
use Rattle.sg_pages.proofs.mode_pages.mode_select.take_pages.Goals as goal

pub returns-in_err-offset : goal.returns-in_err-offset
returns-in_err-offset c =
    let p = err_from_is_err_and c.from_residual.result c.from_residual.ensures.1 in
    let next = sym c.loop-offset.invariant.faults
    ∙ next-faults c.args.profile c.args.current.now c.loop-offset.offset c.args.list.now
    c.loop-offset-test.true in
    rw (p.1, p.2) (fails _ _ _ _ _ next (unless-err _ _ _ c.in_err-offset.ensures.result))

pub loop-offset-preserved : goal.loop-offset-preserved
loop-offset-preserved c =
    let list = c.args.list.now in
    let current = c.args.current.now in
    let profile = c.args.profile in
    let offset = c.loop-offset.offset in
    let after = offset + (page_at offset list).size in
    let passed = unless-ok _ _ _ c.in_ok-offset.ensures.result in
    record {
      inside = rw (passed.1) c.in_ok-offset.ensures.whole;
      faults =
          ap (λ n. first_fault (length list) (flat_map (page_faults profile current) (pages_from n list)))
          passed.1
          ∙ (sym (next-faults profile current offset list c.loop-offset-test.true
          ∙ ap (λ o. option_or o (first_fault (length list)
          (flat_map (page_faults profile current) (pages_from after list)))) passed.0)
          ∙ c.loop-offset.invariant.faults);
      values =
          ap (λ n. values_after c.take_page.new.values (pages_from n list)) passed.1
          ∙ (ap (λ (v : PageValues). values_after v (pages_from after list))
          c.in_ok-offset.ensures.values
          ∙ (sym (next-values c.loop-offset.values offset list c.loop-offset-test.true)
          ∙ c.loop-offset.invariant.values));
    }

pub returns : goal.returns
returns c =
    no-page c.args.profile c.args.current.now c.loop-offset.values c.loop-offset.offset c.args.first
    c.args.list.now c.loop-offset-test.false c.loop-offset.invariant.faults
    c.loop-offset.invariant.values
