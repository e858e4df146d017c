use Rattle.std.proofs.Common.{sym, ◌∙◌}
use Rattle.sg_tools.proofs.DataOutLemmas.{some-text, write_excluded, write_is}
use Rattle.sg_tools.proofs.write_same.sg_write_same.Goals as goal

pub returns-then-excludes : goal.returns-then-excludes
returns-then-excludes c =
    let word = c.is_some-has_word.ensures ∙ some-text c.text-word.result in
    let lba = c.is_some.ensures ∙ some-text c.text-lba.result in
    let count = c.is_some-2.ensures ∙ some-text c.text-count.result in
    let given = rw (word, lba, count) at c.is_none_given.ensures in
    let both = rw word at c.excludes.ensures in
    write_excluded c.args.options.now _ _ _ _ _ _ _ (record {
      at_word = sym c.text-word.ensures;
      at_lba = sym c.text-lba.ensures;
      at_count = sym c.text-count.ensures;
      at_short = sym c.is_set.ensures;
      at_long = sym c.is_set-2.ensures;
      at_ones = sym c.is_set-ones.ensures;
      at_ndob = sym c.is_set-ndob.ensures;
      given = sym given ∙ c.if-is_none_given.false;
    }) (sym both ∙ c.if-excludes.true)

pub returns : goal.returns
returns c =
    let word = c.is_some-has_word.ensures ∙ some-text c.text-word.result in
    let lba = c.is_some.ensures ∙ some-text c.text-lba.result in
    let count = c.is_some-2.ensures ∙ some-text c.text-count.result in
    let given = rw (word, lba, count) at c.is_none_given.ensures in
    let both = rw word at c.excludes.ensures in
    write_is c.args.options.now _ _ _ _ _ _ _ _ _ _ (record {
      at_word = sym c.text-word.ensures;
      at_lba = sym c.text-lba.ensures;
      at_count = sym c.text-count.ensures;
      at_short = sym c.is_set.ensures;
      at_long = sym c.is_set-2.ensures;
      at_ones = sym c.is_set-ones.ensures;
      at_ndob = sym c.is_set-ndob.ensures;
      given = sym given ∙ c.if-is_none_given.false;
    }) (sym c.is_set-3.ensures) (sym c.is_set-4.ensures) (sym both ∙ c.if-excludes.false)
    (rw (
      c.number_or-lba.ensures.value,
      c.number_or-count.ensures.value,
      c.data_or.ensures,
      c.filled_block.ensures,
    ) at c.write_block.ensures)
