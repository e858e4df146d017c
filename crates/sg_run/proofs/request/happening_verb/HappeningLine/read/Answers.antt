use Rattle.std.proofs.Common.{ap, map, ◌∙◌}
use Rattle.std.specs.Str.{IsAscii}
use Rattle.sg_run.specs.Verbs.{happening_of}
use Rattle.sg_run.proofs.ToolWordLemmas.{all-others}
use Rattle.sg_run.proofs.WordLemmas.{kept-has, words-ascii}
use Rattle.sg_run.proofs.request.happening_verb.HappeningLine.read.Goals as goal

pub read-requires : goal.read-requires
read-requires c =
    let kept = ap (map (λ word. word.now)) c.as_slice.ensures ∙ c.of-words.ensures.first in
    kept-has IsAscii c.args.self.now.text.now 64 _ _ kept
    (words-ascii c.args.self.now.text.now c.args.self.now.allowed)

pub returns : goal.returns
returns c =
    let kept = ap (map (λ word. word.now)) c.as_slice.ensures ∙ c.of-words.ensures.first in
    let all = all-others c.args.self.now.text.now _ kept c.args.self.now.at_most_64 in
    c.read.ensures ∙ ap (happening_of c.args.self.now.verb) all
