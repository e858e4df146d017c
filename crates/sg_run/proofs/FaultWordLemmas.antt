-- The words of `fault`, by the first of them.
use Rattle.std.proofs.Common.{◌≡◌, ◌≤◌, ◌<◌, ℕ, ◌-◌, List, [], ◌∷◌, length, map, take, drop}
use Rattle.std.proofs.Common.{slice_index_or, Bor, Some, None, true, false, refl}
use Rattle.std.proofs.Common.{arith}
use Rattle.std.proofs.lemmas.List.{take_all}
use Rattle.sg_run.specs.FaultOptions.{and_option, blocks_option, is_blocks, is_healed, no_options}
use Rattle.sg_run.specs.FaultOptions.{operand_option, options_of}
use Rattle.sg_run.specs.FaultVerbs.{fault_of}
use Rattle.sg_run.specs.declared.request.fault_options.FaultOption.TheVariants.{Healed}

abbrev Words : Type 0
Words = List (Bor (List ℕ))

abbrev texts : Words → List (List ℕ)
texts words = map (λ word. word.now) words

-- the words after the first ones
abbrev after : (count : ℕ) → Words → Words
after count words = take (length words - count) (drop count words)

whole-1 : (w : Bor (List ℕ)) (ws : Words) → after 1 (w ∷ ws) ≡ ws
whole-1 w ws = take_all _ ws (omega arith)

whole-2 : (v w : Bor (List ℕ)) (ws : Words) → after 2 (v ∷ w ∷ ws) ≡ ws
whole-2 v w ws = take_all _ ws (omega arith)

whole-3 : (u v w : Bor (List ℕ)) (ws : Words) → after 3 (u ∷ v ∷ w ∷ ws) ≡ ws
whole-3 u v w ws = take_all _ ws (omega arith)

-- ---- Options

pub no_word : (words : Words) → length words < 1 → options_of (texts words) ≡ Some no_options
unfolding options_of
no_word [] few = refl
no_word (w ∷ ws) few = absurd (omega arith)

-- a flag
pub healed_first : (words : Words) (d : Bor (List ℕ)) → 1 ≤ length words
    → is_healed (slice_index_or words 0 d).now ≡ true
    → options_of (texts words) ≡ and_option (Some Healed) (options_of (texts (after 1 words)))
unfolding options_of
healed_first [] d some is = absurd (omega arith)
healed_first (a ∷ []) d some is = rw is refl
healed_first (a ∷ b ∷ []) d some is = rw is refl
healed_first (a ∷ b ∷ c ∷ ws) d some is = rw (is, whole-1 a (b ∷ c ∷ ws)) refl

-- a word that is no option
pub lone_word : (words : Words) (d : Bor (List ℕ)) → length words ≡ 1
    → is_healed (slice_index_or words 0 d).now ≡ false → options_of (texts words) ≡ None
unfolding options_of
lone_word [] d one not = absurd (omega arith)
lone_word (a ∷ []) d one not = rw not refl
lone_word (a ∷ b ∷ ws) d one not = absurd (omega arith)

-- blocks
pub blocks_first : (words : Words) (d e f : Bor (List ℕ)) → 3 ≤ length words
    → is_healed (slice_index_or words 0 d).now ≡ false
    → is_blocks (slice_index_or words 0 d).now ≡ true
    → options_of (texts words) ≡ and_option
    (blocks_option (slice_index_or words 1 e).now (slice_index_or words 2 f).now)
    (options_of (texts (after 3 words)))
unfolding options_of
blocks_first [] d e f some not is = absurd (omega arith)
blocks_first (a ∷ []) d e f some not is = absurd (omega arith)
blocks_first (a ∷ b ∷ []) d e f some not is = absurd (omega arith)
blocks_first (a ∷ b ∷ c ∷ ws) d e f some not is = rw (not, is, whole-3 a b c ws) refl

-- an option with an operand
pub operand_first : (words : Words) (d e : Bor (List ℕ)) → 2 ≤ length words
    → is_healed (slice_index_or words 0 d).now ≡ false
    → (3 ≤ length words → is_blocks (slice_index_or words 0 d).now ≡ false)
    → options_of (texts words) ≡ and_option
    (operand_option (slice_index_or words 0 d).now (slice_index_or words 1 e).now)
    (options_of (texts (after 2 words)))
unfolding options_of
operand_first [] d e some not other = absurd (omega arith)
operand_first (a ∷ []) d e some not other = absurd (omega arith)
operand_first (a ∷ b ∷ []) d e some not other = rw not refl
operand_first (a ∷ b ∷ c ∷ ws) d e some not other =
    rw (not, other (omega arith), whole-2 a b (c ∷ ws)) refl

-- ---- The verb

pub no_fault : (words : Words) → length words < 2 → fault_of (texts words) ≡ None
no_fault [] few = refl
no_fault (a ∷ []) few = refl
no_fault (a ∷ b ∷ ws) few = absurd (omega arith)

pub ruleset option_words = (no_word, healed_first, lone_word, blocks_first, operand_first)
