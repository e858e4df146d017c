use Rattle.std.proofs.Common.{◌≡◌, List, ap, ◌∙◌}
use Rattle.clap.proofs.WalkLemmas.{first_value-rows}
use Rattle.clap.specs.Words.{Row, found_of, rows_of}
use Rattle.sg_tools.specs.GivenOptions.{text_of}
use Rattle.sg_tools.proofs.given_options.GivenOptions.text.Goals as goal

pub returns : goal.returns
returns c =
    let view : rows_of (found_of c.self.inside.matches) ≡ c.args.self.now = c.self.view_is in
    c.get_str.ensures ∙ first_value-rows (found_of c.self.inside.matches) c.args.option.now
    ∙ ap (λ (rows : List Row). text_of c.args.option.now rows) view
