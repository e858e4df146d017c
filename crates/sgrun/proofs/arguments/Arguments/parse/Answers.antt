use Rattle.std.proofs.Common.{rules, ◌≡◌, true, refl, ap, ◌∙◌}
use Rattle.clap.proofs.OnLiterals.{clap_on_literals}
use Rattle.clap.specs.Words.{is_simple_and_free}
use Rattle.sg_tools.specs.Options.{with_rules}
use Rattle.sgrun.specs.Options.{command_line}
use Rattle.sgrun.proofs.ArgumentLemmas.{asked, refused}
use Rattle.sgrun.proofs.arguments.Arguments.parse.Goals as goal

is_free : is_simple_and_free command_line ≡ true
unfolding clap_on_literals with_rules
is_free = refl

pub of_words-requires : goal.of_words-requires
of_words-requires c = ap is_simple_and_free c.in_ok-command_line.ensures ∙ is_free

pub returns-in_err-options : goal.returns-in_err-options
returns-in_err-options c =
    refused _ _ c.in_err-options.field-0.0 _
    c.in_ok-command_line.ensures c.in_err-options.ensures (search rules)

pub returns : goal.returns
returns c =
    asked _ _ _ _ c.in_ok-command_line.ensures c.in_ok-options.ensures c.of_options.ensures
