use Rattle.std.proofs.Common.{◌≡◌, ap, ◌∙◌, false}
use Rattle.std.proofs.lemmas.Result.{IfOk-weaker}
use Rattle.clap.specs.Words.{AddsArg, App, Rule, app_of, rule_of, with_rule}
use Rattle.clap.specs.declared.builder.Arg.{Arg}
use Rattle.clap.specs.declared.builder.Command.{Command}
use Rattle.sg_tools.specs.Options.{with_rules}
use Rattle.sgrun.proofs.arguments.command_line.Goals as goal

added : (before after : Command) (arg : Arg) (app : App) (rule : Rule)
    → app_of before ≡ app → arg.global ≡ false → rule_of arg ≡ rule → AddsArg before arg after
    → app_of after ≡ with_rule app rule
added before after arg app rule is local same adds =
    adds.shape local
    ∙ (ap (λ (a : App). with_rule a (rule_of arg)) is ∙ ap (with_rule app) same)

pub returns : goal.returns
unfolding with_rules
returns c =
    let first = c.text_option.ensures in
    let second = c.text_option-2.ensures in
    let third = c.text_option-3.ensures in
    let fourth = c.text_option-4.ensures in
    let fifth = c.text_option-5.ensures in
    let sixth = c.text_option-6.ensures in
    let seventh = c.text_option-7.ensures in
    let one = added _ _ _ _ _ c.new.ensures.app first.global first.rule c.in_ok-arg.ensures in
    let two = added _ _ _ _ _ one second.global second.rule c.in_ok-arg-2.ensures in
    let three = added _ _ _ _ _ two third.global third.rule c.in_ok-arg-3.ensures in
    let four = added _ _ _ _ _ three fourth.global fourth.rule c.in_ok-arg-4.ensures in
    let five = added _ _ _ _ _ four fifth.global fifth.rule c.in_ok-arg-5.ensures in
    let six = added _ _ _ _ _ five sixth.global sixth.rule c.in_ok-arg-6.ensures in
    IfOk-weaker c.arg-7.result _ _
    (λ command adds. added _ _ _ _ _ six seventh.global seventh.rule adds) c.arg-7.ensures
