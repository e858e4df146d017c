use Rattle.std.proofs.Common.{ap, map, subst, ◌∙◌}
use Rattle.std.specs.Str.{IsAscii}
use Rattle.sg_tools.specs.GivenOptions.{IsUnlessOutOfMemory}
use Rattle.sg_tools.specs.Requests.{request}
use Rattle.sg_run.proofs.ToolWordLemmas.{all-others, others-fit}
use Rattle.sg_run.proofs.WordLemmas.{kept-has, words-ascii}
use Rattle.sg_run.proofs.request.tool.ToolLine.parse.Goals as goal

pub parse_words-requires-clause-ascii : goal.parse_words-requires-clause-ascii
parse_words-requires-clause-ascii c =
    let kept = ap (map (λ word. word.now)) c.as_slice.ensures ∙ c.of-words.ensures.first in
    kept-has IsAscii c.args.self.now.text.now 64 _ _ kept
    (words-ascii c.args.self.now.text.now c.args.self.now.allowed)

pub parse_words-requires-clause-at_most_64 : goal.parse_words-requires-clause-at_most_64
parse_words-requires-clause-at_most_64 c =
    let kept = ap (map (λ word. word.now)) c.as_slice.ensures ∙ c.of-words.ensures.first in
    others-fit c.args.self.now.text.now _ kept

pub returns : goal.returns
returns c =
    let kept = ap (map (λ word. word.now)) c.as_slice.ensures ∙ c.of-words.ensures.first in
    let all = all-others c.args.self.now.text.now _ kept c.args.self.now.at_most_64 in
    subst (λ words. IsUnlessOutOfMemory (request c.args.self.now.name words) c.parse_words.result)
    all c.parse_words.ensures
