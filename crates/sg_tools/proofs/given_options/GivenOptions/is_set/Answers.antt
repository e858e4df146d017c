use Rattle.std.proofs.Common.{◌≡◌, List, ap, ◌∙◌}
use Rattle.clap.proofs.WalkLemmas.{first_value-rows}
use Rattle.clap.specs.Words.{Row, found_of, rows_of}
use Rattle.sg_tools.specs.GivenOptions.{is_true, is_set}
use Rattle.sg_tools.proofs.given_options.GivenOptions.is_set.Goals as goal

pub returns-in-Some : goal.returns-in-Some
returns-in-Some c =
    let view : rows_of (found_of c.self.inside.matches) ≡ c.args.self.now = c.self.view_is in
    c.eq.ensures ∙ ap is_true (c.in-Some.ensures ∙ first_value-rows (found_of c.self.inside.matches)
    c.args.option.now) ∙ ap (λ (rows : List Row). is_set c.args.option.now rows) view

pub returns-in-None : goal.returns-in-None
returns-in-None c =
    let view : rows_of (found_of c.self.inside.matches) ≡ c.args.self.now = c.self.view_is in
    ap is_true (c.in-None.ensures ∙ first_value-rows (found_of c.self.inside.matches)
    c.args.option.now) ∙ ap (λ (rows : List Row). is_set c.args.option.now rows) view
