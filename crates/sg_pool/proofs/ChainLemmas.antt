-- Chains of slots.
use Rattle.std.proofs.Common.{◌≡◌, ◌≢◌, ℕ, ◌+◌, ◌-◌, ◌<◌, zero, suc, List, ◌∷◌, length, set}
use Rattle.std.proofs.Common.{arith, refl, sym, ap, add-one, get_or-set_other, get_or-set_same}
use Rattle.std.specs.Prelude.{slice_index}
use Rattle.sg_pool.specs.Chains.{chain, AreBelow}
use Rattle.sg_table.specs.Occurrences.{occurrences}
use Rattle.sg_table.proofs.OccurrenceLemmas.{not_equal}

pub length-chain : (next : List ℕ) (first n : ℕ) → length (chain next first n) ≡ n
unfolding chain
length-chain next first zero = refl
length-chain next first (suc n) = ap suc (length-chain next (slice_index next first) n)

pub chain-first : (next : List ℕ) (first n : ℕ) → 0 < n → chain next first n ≡
    first ∷ chain next (slice_index next first) (n - 1)
unfolding chain
chain-first next first zero some = absurd (omega arith)
chain-first next first (suc n) some = let e : suc n - 1 ≡ n = omega arith in
    ap (λ k. first ∷ chain next (slice_index next first) k) (sym e)

-- the first slot of a chain, and the slots after it
pub first-below : (next : List ℕ) (first n count : ℕ) → 0 < n → AreBelow count (chain next first n)
    → first < count
unfolding chain AreBelow
first-below next first zero count some below = absurd (omega arith)
first-below next first (suc n) count some below = below.0

pub rest-below : (next : List ℕ) (first n count : ℕ) → 0 < n → AreBelow count (chain next first n)
    → AreBelow count (chain next (slice_index next first) (n - 1))
unfolding chain AreBelow
rest-below next first zero count some below = absurd (omega arith)
rest-below next first (suc n) count some below = let e : suc n - 1 ≡ n = omega arith in rw e below.1

-- the link of a slot that the chain does not have
pub chain-set : (next : List ℕ) (slot after first n : ℕ) → occurrences slot (chain next first n) ≡ 0
    → chain (set next slot after) first n ≡ chain next first n
unfolding chain occurrences
chain-set next slot after first zero none = refl
chain-set next slot after first (suc n) none =
    let other : first ≢ slot = not_equal slot first (omega arith) in
    let same : slice_index (set next slot after) first ≡ slice_index next first =
    get_or-set_other next slot first after 0 other in
    rw same (ap (λ xs. first ∷ xs) (chain-set next slot after (slice_index next first) n (omega arith)))

-- a slot is put before a chain
pub chain-given : (next : List ℕ) (slot first n : ℕ) → slot < length next
    → occurrences slot (chain next first n) ≡ 0 → chain (set next slot first) slot (n + 1) ≡
    slot ∷ chain next first n
unfolding chain
chain-given next slot first n low none =
    let after : slice_index (set next slot first) slot ≡ first = get_or-set_same next slot first 0 low in
    rw (add-one, after) (ap (λ xs. slot ∷ xs) (chain-set next slot first first n none))

pub given-below : (count slot : ℕ) (slots : List ℕ) → slot < count → AreBelow count slots
    → AreBelow count (slot ∷ slots)
unfolding AreBelow
given-below count slot slots low below = (low, below)
