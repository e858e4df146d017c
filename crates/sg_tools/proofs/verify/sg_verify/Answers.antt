use Rattle.std.proofs.Common.{sym, ◌∙◌}
use Rattle.sg_tools.proofs.DataOutLemmas.{some-text, verify_is}
use Rattle.sg_tools.proofs.verify.sg_verify.Goals as goal

pub returns : goal.returns
returns c =
    let there = c.is_some-has_word.ensures ∙ some-text c.text-word.result in
    let one = rw there at c.has_two_sources.ensures in
    let compares = rw there at c.has_data-compares.ensures in
    verify_is c.args.options.now _ _ _ _ _ _ _ _ (sym c.text-word.ensures) (sym c.text-lba.ensures)
    (sym c.text-count.ensures) (sym c.text.ensures) (sym c.is_set-zeros.ensures)
    (sym c.is_set-ones.ensures) (sym c.is_set.ensures)
    (sym one ∙ c.if-has_two_sources.false)
    (rw (
      c.byte_check_or-byte_check.ensures.value,
      compares,
      c.data_or-sent.ensures,
      c.block_or_nothing.ensures,
    ) at c.verify.ensures)
