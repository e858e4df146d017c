use Rattle.std.proofs.Common.{map, ap, arith, sym, ◌∙◌}
use Rattle.std.proofs.lemmas.Bool.Decides.{nat_tests}
use Rattle.std.specs.Str.{IsAscii}
use Rattle.sg_run.specs.declared.request.TheConstants.{MOST_WORDS}
use Rattle.sg_run.proofs.RequestLemmas.{first_words, none-first, request-by_happening}
use Rattle.sg_run.proofs.RequestLemmas.{request-by_short_verb}
use Rattle.sg_run.proofs.WordLemmas.{kept-has, operands-within, words-ascii}
use Rattle.sg_run.proofs.request.read_text.Goals as goal

pub by_short_verb-requires-clause-operands : goal.by_short_verb-requires-clause-operands
by_short_verb-requires-clause-operands c =
    let first = ap (map (λ word. word.now)) c.as_slice.ensures ∙ c.of-words.ensures.first in
    operands-within c.args.text.now MOST_WORDS _ _ _ first c.requires.text

pub by_short_verb-requires-clause-ascii : goal.by_short_verb-requires-clause-ascii
by_short_verb-requires-clause-ascii c =
    let first = ap (map (λ word. word.now)) c.as_slice.ensures ∙ c.of-words.ensures.first in
    let allowed = sym c.of-words.ensures.are_allowed ∙ c.if-not-words.false in
    kept-has IsAscii c.args.text.now MOST_WORDS _ _ first (words-ascii c.args.text.now allowed)

pub of_operands-requires-clause-ascii : goal.of_operands-requires-clause-ascii
of_operands-requires-clause-ascii c =
    let first = ap (map (λ word. word.now)) c.as_slice.ensures ∙ c.of-words.ensures.first in
    let allowed = sym c.of-words.ensures.are_allowed ∙ c.if-not-words.false in
    kept-has IsAscii c.args.text.now MOST_WORDS _ _ first (words-ascii c.args.text.now allowed)

-- a verb that lets something happen
pub returns-in-Some-of_word : goal.returns-in-Some-of_word
returns-in-Some-of_word c =
    let first = ap (map (λ word. word.now)) c.as_slice.ensures ∙ c.of-words.ensures.first in
    let allowed = sym c.of-words.ensures.are_allowed ∙ c.if-not-words.false in
    let kept = first_words c.args.text.now c.as_slice.result.now _ first (grind (arith, nat_tests))
    (grind (arith, nat_tests, none-first)) allowed (omega arith) in
    c.request.ensures
    ∙ request-by_happening c.args.profile c.args.text.now _ _ c.in-Some-of_word.lets_happen kept
    (sym c.read_initiator.ensures ∙ c.in-None.is) (sym c.of_word.ensures ∙ c.in-Some-of_word.is)

-- any other verb
pub returns-in-None-of_word : goal.returns-in-None-of_word
returns-in-None-of_word c =
    let first = ap (map (λ word. word.now)) c.as_slice.ensures ∙ c.of-words.ensures.first in
    let allowed = sym c.of-words.ensures.are_allowed ∙ c.if-not-words.false in
    let kept = first_words c.args.text.now c.as_slice.result.now _ first (grind (arith, nat_tests))
    (grind (arith, nat_tests, none-first)) allowed (omega arith) in
    c.by_short_verb.ensures
    ∙ request-by_short_verb c.args.profile c.args.text.now _ _ kept
    (sym c.read_initiator.ensures ∙ c.in-None.is) (sym c.of_word.ensures ∙ c.in-None-of_word.is)
