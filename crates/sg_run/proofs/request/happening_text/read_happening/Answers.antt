use Rattle.std.proofs.Common.{◌≡◌, ◌≤◌, ℕ, List, Result, IfOk, true, length, ap, map, take, refl, sym}
use Rattle.std.proofs.Common.{◌∙◌, arith, subst}
use Rattle.std.specs.List.{list_all}
use Rattle.sg_run.specs.Request.{is_allowed}
use Rattle.sg_run.specs.WellFormed.{IsWellFormed}
use Rattle.sg_run.specs.declared.request.happening_text.HappeningFault.{HappeningFault}
use Rattle.sg_target.specs.declared.happening.Happening.{Happening}
use Rattle.sg_run.proofs.WellFormedLemmas.{well-formed}
use Rattle.std.proofs.lemmas.List.{take_all}
use Rattle.std.specs.Str.{IsAscii}
use Rattle.sg_run.specs.HappeningText.{by_verb_words, happening_of_text}
use Rattle.sg_run.specs.Limits.{word_limit}
use Rattle.sg_run.specs.Words.{words}
use Rattle.sg_run.proofs.RequestLemmas.{few-words}
use Rattle.sg_run.proofs.WordLemmas.{each-kept-has, words-ascii}
use Rattle.sg_run.proofs.request.happening_text.read_happening.Goals as goal

pub read_words-requires : goal.read_words-requires
read_words-requires c =
    let kept = ap (map (λ word. word.now)) c.as_slice.ensures ∙ c.of-words.ensures.first in
    let allowed = sym c.of-words.ensures.are_allowed ∙ c.if-not-words.false in
    each-kept-has IsAscii c.args.text.now 64 _ kept (words-ascii c.args.text.now allowed)

asked : (text : List ℕ) (result : Result Happening HappeningFault) (kept : List (List ℕ))
    → kept ≡ take 64 (words text) → list_all is_allowed text ≡ true → length (words text) ≤ word_limit
    → result ≡ by_verb_words kept → result ≡ happening_of_text text
unfolding happening_of_text
asked text result kept first allowed few read =
    let all = first ∙ take_all 64 (words text) few in
    read ∙ (ap by_verb_words all ∙ rw (allowed, few-words (length (words text)) few) refl)

pub returns-clause-asked : goal.returns-clause-asked
returns-clause-asked c =
    let kept = ap (map (λ word. word.now)) c.as_slice.ensures ∙ c.of-words.ensures.first in
    let allowed = sym c.of-words.ensures.are_allowed ∙ c.if-not-words.false in
    asked c.args.text.now c.read_words.result _ kept allowed (omega (arith, c.of-words.ensures.count))
    c.read_words.ensures

pub returns-clause-well_formed : goal.returns-clause-well_formed
returns-clause-well_formed c =
    let kept = ap (map (λ word. word.now)) c.as_slice.ensures ∙ c.of-words.ensures.first in
    let allowed = sym c.of-words.ensures.are_allowed ∙ c.if-not-words.false in
    let is = asked c.args.text.now c.read_words.result _ kept allowed
    (omega (arith, c.of-words.ensures.count)) c.read_words.ensures in
    subst (λ result. IfOk result IsWellFormed) (sym is) (well-formed c.args.text.now)
