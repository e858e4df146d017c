use Rattle.std.proofs.Common.{ap, map, subst, arith, ◌∙◌}
use Rattle.std.proofs.lemmas.List.{take_all}
use Rattle.sg_tools.specs.GivenOptions.{IsUnlessOutOfMemory}
use Rattle.sg_tools.specs.Requests.{request}
use Rattle.sg_run.proofs.ToolWordLemmas.{texts-fit}
use Rattle.sg_run.proofs.request.tool.parse_words.Goals as goal

pub push-requires : goal.push-requires
push-requires c = (
  omega arith,
  texts-fit c.args.words.now c.loop-word.texts.items c.loop-word.word-index c.loop-word.invariant
      c.requires.at_most_64 c.loop-word-test.true,
)

pub returns : goal.returns
returns c =
    let all = ap (map (λ word. word.now)) (take_all c.loop-word.word-index c.args.words.now
    (omega (arith, c.loop-word-test.false))) in
    let texts = ap (map (λ text. text.now)) c.as_slice.ensures.value ∙ (c.loop-word.invariant ∙ all)
    in
    subst (λ words. IsUnlessOutOfMemory (request c.args.name words) c.parse.result)
    texts c.parse.ensures
