-- The request of a line, by the first of its words.
use Rattle.std.proofs.Common.{◌≡◌, ◌≤◌, ◌<◌, ℕ, ◌-◌, List, [], ◌∷◌, length, map, take, drop}
use Rattle.std.proofs.Common.{slice_index, slice_index_or, Bor, Option, Some, None, true, false}
use Rattle.std.proofs.Common.{refl, sym, ap, ◌∙◌, arith}
use Rattle.std.specs.Prelude.{◌==◌, nat_lt}
use Rattle.std.specs.List.{list_all}
use Rattle.std.proofs.lemmas.Bool.Decides.{nat_tests}
use Rattle.std.proofs.lemmas.List.{take_all}
use Rattle.sg_run.specs.Limits.{word_limit}
use Rattle.sg_wire.specs.declared.profile.Profile.{Profile}
use Rattle.sg_wire.specs.declared.profile.Profile.TheVariants.{Base, Extended}
use Rattle.sg_run.specs.InitiatorWord.{initiator_of}
use Rattle.sg_run.specs.Request.{LineRequest, by_first_word, by_named_verb, by_short_verb, by_verb}
use Rattle.sg_run.specs.Request.{by_words, happening_request, is_allowed, text_request, tool_line}
use Rattle.sg_run.specs.Verbs.{happening_of, verb_named, verbs_of}
use Rattle.sg_run.specs.Words.{tool_words, words}
use Rattle.sg_run.specs.declared.request.happening_verb.HappeningVerb.{HappeningVerb}

-- a verb that lets nothing happen takes at most four operands
first-operands : (profile : Profile) (verb : List ℕ) (operands : List (List ℕ))
    → by_short_verb profile verb (take 5 operands) ≡ by_short_verb profile verb operands
first-operands profile verb [] = refl
first-operands profile verb (a ∷ []) = refl
first-operands profile verb (a ∷ b ∷ []) = refl
first-operands profile verb (a ∷ b ∷ c ∷ []) = refl
first-operands profile verb (a ∷ b ∷ c ∷ d ∷ []) = refl
first-operands Base verb (a ∷ b ∷ c ∷ d ∷ e ∷ rest) = refl
first-operands Extended verb (a ∷ b ∷ c ∷ d ∷ e ∷ rest) = refl

pub few-words : (count : ℕ) → count ≤ word_limit → nat_lt word_limit count ≡ false
few-words count few = grind (arith, nat_tests)

after-tests : (profile : Profile) (text verb : List ℕ) (operands : List (List ℕ))
    → (slice_index verb 0 == 0x23) ≡ false → list_all is_allowed text ≡ true
    → length (verb ∷ operands) ≤ word_limit
    → by_words profile text (verb ∷ operands)
    ≡ by_first_word profile (initiator_of profile verb) verb operands
after-tests profile text verb operands no_comment allowed few =
    rw (no_comment, allowed, few-words (length (verb ∷ operands)) few) refl

-- the first words of a text; this many of its words are kept
pub record HasFirstWords (text verb : List ℕ) (operands : List (List ℕ)) : Type 0 where
  pub words_are : verb ∷ operands ≡ take 6 (words text)
  pub no_comment : (slice_index verb 0 == 0x23) ≡ false
  pub allowed : list_all is_allowed text ≡ true
  pub few : length (words text) ≤ word_limit

by-first_words : (profile : Profile) (text verb : List ℕ) (operands all : List (List ℕ))
    → verb ∷ operands ≡ take 6 all
    → (slice_index verb 0 == 0x23) ≡ false → list_all is_allowed text ≡ true
    → length all ≤ word_limit
    → (operands ≡ take 5 (drop 1 all))
    × (by_words profile text all ≡ by_first_word profile (initiator_of profile verb) verb (drop 1 all))
by-first_words profile text verb operands [] first no_comment allowed few = cc
by-first_words profile text verb operands (v ∷ os) first no_comment allowed few =
    let same_verb : verb ≡ v = cc in
    let same_operands : operands ≡ take 5 os = cc in
    let tested = after-tests profile text v os (rw (← same_verb) no_comment) allowed few in
    rw (same_verb) (same_operands, tested)

-- a verb, which is no initiator
request-by_verb : (profile : Profile) (text verb : List ℕ) (operands : List (List ℕ))
    → HasFirstWords text verb operands → initiator_of profile verb ≡ None
    → text_request profile text ≡ by_verb profile verb (drop 1 (words text))
unfolding text_request
request-by_verb profile text verb operands w none =
    let all : List (List ℕ) = words text in
    let by = by-first_words profile text verb operands all w.words_are w.no_comment w.allowed w.few in
    let by_word : Option ℕ → LineRequest = λ i. by_first_word profile i verb (drop 1 all) in
    by.1 ∙ ap by_word none

-- which lets nothing happen
pub request-by_short_verb : (profile : Profile) (text verb : List ℕ) (operands : List (List ℕ))
    → HasFirstWords text verb operands → initiator_of profile verb ≡ None
    → verb_named (verbs_of profile) verb ≡ None
    → by_short_verb profile verb operands ≡ text_request profile text
request-by_short_verb profile text verb operands w none short =
    let all : List (List ℕ) = words text in
    let by = by-first_words profile text verb operands all w.words_are w.no_comment w.allowed w.few in
    let by_name : Option HappeningVerb → LineRequest = λ v. by_named_verb profile v verb (drop 1 all) in
    ap (by_short_verb profile verb) by.0
    ∙ (first-operands profile verb (drop 1 all)
    ∙ sym (request-by_verb profile text verb operands w none ∙ ap by_name short))

-- or lets something happen
pub request-by_happening : (profile : Profile) (text verb : List ℕ) (operands : List (List ℕ))
    (lets_happen : HappeningVerb) → HasFirstWords text verb operands → initiator_of profile verb ≡ None
    → verb_named (verbs_of profile) verb ≡ Some lets_happen
    → happening_request (happening_of lets_happen (drop 1 (words text))) ≡ text_request profile text
request-by_happening profile text verb operands lets_happen w none named =
    let all : List (List ℕ) = words text in
    let by_name : Option HappeningVerb → LineRequest = λ v. by_named_verb profile v verb (drop 1 all) in
    sym (request-by_verb profile text verb operands w none ∙ ap by_name named)

-- an initiator
pub request-by_tool : (profile : Profile) (text verb : List ℕ) (operands : List (List ℕ)) (initiator : ℕ)
    → HasFirstWords text verb operands → initiator_of profile verb ≡ Some initiator
    → (operands ≡ take 5 (tool_words text))
    × (tool_line profile initiator (tool_words text) ≡ text_request profile text)
unfolding text_request
request-by_tool profile text verb operands initiator w some =
    let all : List (List ℕ) = words text in
    let by = by-first_words profile text verb operands all w.words_are w.no_comment w.allowed w.few in
    let by_word : Option ℕ → LineRequest = λ i. by_first_word profile i verb (drop 1 all) in
    (by.0, sym (by.1 ∙ ap by_word some))

-- borrowed words, whose first is the verb
pub first_words : (text : List ℕ) (kept : List (Bor (List ℕ))) (d : Bor (List ℕ))
    → map (λ word. word.now) kept ≡ take 6 (words text) → 1 ≤ length kept
    → (slice_index (slice_index_or kept 0 d).now 0 == 0x23) ≡ false
    → list_all is_allowed text ≡ true → length (words text) ≤ word_limit
    → HasFirstWords text (slice_index_or kept 0 d).now
    (map (λ word. word.now) (take (length kept - 1) (drop 1 kept)))
first_words text [] d first some no_comment allowed few = absurd (omega arith)
first_words text (verb ∷ operands) d first some no_comment allowed few =
    let whole : take (length (verb ∷ operands) - 1) operands ≡ operands =
    take_all _ operands (omega arith) in
    record {
      words_are = ap (λ os. verb.now ∷ map (λ word. word.now) os) whole ∙ first;
      no_comment = no_comment;
      allowed = allowed;
      few = few;
    }

-- an empty word has no first byte
pub none-first : (word : List ℕ) → length word < 1 → slice_index word 0 ≡ 0
none-first [] h = refl
none-first (byte ∷ bytes) h = absurd (omega arith)
