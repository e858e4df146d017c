use Rattle.std.proofs.Common.{◌≤◌, length, ap, map, sym, ◌∙◌, arith}
use Rattle.std.proofs.lemmas.List.{take_all}
use Rattle.std.specs.Str.{IsAscii}
use Rattle.sg_run.specs.Limits.{word_limit}
use Rattle.sg_run.specs.Words.{words}
use Rattle.sg_run.proofs.ToolWordLemmas.{asked-in_text, kept-fit, read-in_text}
use Rattle.sg_run.proofs.WordLemmas.{each-kept-has, words-ascii}
use Rattle.sg_run.proofs.request.tool.read_tool.Goals as goal

pub first_tool-requires : goal.first_tool-requires
first_tool-requires c =
    let kept = ap (map (λ word. word.now)) c.as_slice-words.ensures ∙ c.of-words.ensures.first in
    let allowed = sym c.of-words.ensures.are_allowed ∙ c.if-not-words.false in
    each-kept-has IsAscii c.args.text.now 64 _ kept (words-ascii c.args.text.now allowed)

pub parse_words-requires-clause-ascii : goal.parse_words-requires-clause-ascii
parse_words-requires-clause-ascii c =
    let kept = ap (map (λ word. word.now)) c.as_slice-words.ensures ∙ c.of-words.ensures.first in
    let allowed = sym c.of-words.ensures.are_allowed ∙ c.if-not-words.false in
    each-kept-has IsAscii c.args.text.now 64 _ kept (words-ascii c.args.text.now allowed)

pub parse_words-requires-clause-at_most_64 : goal.parse_words-requires-clause-at_most_64
parse_words-requires-clause-at_most_64 c =
    let kept = ap (map (λ word. word.now)) c.as_slice-words.ensures ∙ c.of-words.ensures.first in
    kept-fit c.args.text.now _ kept

pub returns-in-Some : goal.returns-in-Some
returns-in-Some c =
    let kept = ap (map (λ word. word.now)) c.as_slice-words.ensures ∙ c.of-words.ensures.first in
    let allowed = sym c.of-words.ensures.are_allowed ∙ c.if-not-words.false in
    let few : length (words c.args.text.now) ≤ word_limit = omega (arith, c.of-words.ensures.count) in
    let all = kept ∙ take_all 64 (words c.args.text.now) few in
    read-in_text c.args.text.now _ _ _ c.in_text.ensures c.parse_words.ensures
    (asked-in_text c.args.text.now _ c.in-Some.name allowed few all
    (sym c.first_tool.ensures ∙ c.in-Some.is))
