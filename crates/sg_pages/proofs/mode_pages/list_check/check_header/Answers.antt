use Rattle.std.proofs.Common.{◌∙◌, ◌||◌, ℕ, ap, sym}
use Rattle.std.specs.Prelude.{◌==◌}
use Rattle.std.proofs.lemmas.List.{take_rest}
use Rattle.std.proofs.lemmas.Result.{err_from_is_err_and}
use Rattle.byteorder.specs.Endian.{big_number}
use Rattle.sg_wire.specs.declared.command.mode.CdbWidth.TheVariants.{Six, Ten}
use Rattle.sg_pages.specs.BlockDescriptor.{descriptor_length}
use Rattle.sg_pages.specs.ModeSelect.{has_longlba, block_descriptor_length}
use Rattle.sg_pages.proofs.SelectLemmas.{header-split-at, header-refused}
use Rattle.sg_pages.proofs.SentPageLemmas.{first-fails}
use Rattle.sg_pages.proofs.SentPagesLemmas.{unless-ok}
use Rattle.sg_pages.proofs.mode_pages.list_check.check_header.Goals as goal

pub returns-in_err-check-in-Six-clause-result : goal.returns-in_err-check-in-Six-clause-result
returns-in_err-check-in-Six-clause-result c =
    let p = err_from_is_err_and c.from_residual.result c.from_residual.ensures.1 in
    rw (p.1, p.2) (first-fails _ _ _ _ _
    (header-split-at c.args.width Six c.args.list.now c.in-Six.is)
    c.in_err-check-in-Six.ensures.result)

pub returns-in_err-check-in-Ten-clause-result : goal.returns-in_err-check-in-Ten-clause-result
returns-in_err-check-in-Ten-clause-result c =
    let p = err_from_is_err_and c.from_residual-in_err-check-in-Ten.result
    c.from_residual-in_err-check-in-Ten.ensures.1 in
    rw (p.1, p.2) (first-fails _ _ _ _ _
    (header-split-at c.args.width Ten c.args.list.now c.in-Ten.is)
    c.in_err-check-in-Ten.ensures.result)

pub returns-then-not-is_descriptor_length-clause-result
    : goal.returns-then-not-is_descriptor_length-clause-result
returns-then-not-is_descriptor_length-clause-result c =
    let list = c.args.list.now in
    let other = ap (λ (n : ℕ). n == 0 || n == 8) (sym c.from-descriptor.ensures)
    ∙ sym c.if-not-is_descriptor_length.ensures in
    header-refused c.args.width Six list (block_descriptor_length c.args.width list) c.in-Six.is
    (unless-ok _ _ _ c.in_ok-check-in-Six.ensures.result).0 c.in_ok-check-in-Six.ensures.whole other

pub returns-then-not-is_descriptor_length-2-clause-result
    : goal.returns-then-not-is_descriptor_length-2-clause-result
returns-then-not-is_descriptor_length-2-clause-result c =
    let list = c.args.list.now in
    let number = c.from-descriptor-in-Ten.ensures
    ∙ (c.read_u16.ensures ∙ ap (big_number 2) (take_rest list 6)) in
    let other = ap (λ (n : ℕ). n == 0 || n == descriptor_length (has_longlba Ten list))
    (sym number) ∙ sym c.if-not-is_descriptor_length-2.ensures in
    header-refused c.args.width Ten list (block_descriptor_length c.args.width list) c.in-Ten.is
    (unless-ok _ _ _ c.in_ok-check-in-Ten.ensures.result).0 c.in_ok-check-in-Ten.ensures.whole other
