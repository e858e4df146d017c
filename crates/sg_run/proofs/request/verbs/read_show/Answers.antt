use Rattle.std.proofs.Common.{◌∙◌, sym}
use Rattle.sg_run.proofs.ShowLemmas.{no-kind}
use Rattle.sg_run.proofs.request.verbs.read_show.Goals as goal

pub returns-in_default-of_word : goal.returns-in_default-of_word
returns-in_default-of_word c =
    no-kind c.args.profile c.args.operands.now _ _ c.in-len2.len_at_least c.in-len2.len_below
    c.word_text.ensures (sym c.in_default-of_word.is ∙ c.of_word.ensures)
