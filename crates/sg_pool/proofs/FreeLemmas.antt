-- The free slots of a pool: a chain, and all from one slot on.
use Rattle.std.proofs.Common.{◌≡◌, ℕ, ◌+◌, ◌-◌, ◌<◌, ◌≤◌, zero, suc, List, ◌∷◌, ◌++◌}
use Rattle.std.proofs.Common.{length, length-append, length-set, set, arith, sym, ap, ◌∙◌}
use Rattle.std.proofs.lemmas.List.{append_assoc}
use Rattle.std.proofs.lemmas.List.FromFn.{length-range_with_len}
use Rattle.std.specs.Prelude.{slice_index}
use Rattle.std.specs.List.{range_with_len}
use Rattle.sg_pool.specs.Chains.{chain, AreBelow, IsChain}
use Rattle.sg_pool.specs.Slots.{free_slots}
use Rattle.sg_pool.proofs.ChainLemmas.{length-chain, chain-first, chain-set, chain-given}
use Rattle.sg_pool.proofs.LinkLemmas.{below-append, chain-joined, slot_after-in}
use Rattle.sg_table.specs.Occurrences.{occurrences}
use Rattle.sg_table.proofs.OccurrenceLemmas.{occurrences-append}

pub length-free : (next : List ℕ) (first given fresh : ℕ) → fresh ≤ length next
    → length (free_slots next first given fresh) ≡ given + (length next - fresh)
length-free next first given fresh le = omega (
  arith,
  length-append (chain next first given) (range_with_len fresh (length next - fresh)),
  length-chain next first given,
  length-range_with_len fresh (length next - fresh),
)

-- if none was given back, a free slot is one that was not taken
pub fresh-left : (next : List ℕ) (first given fresh : ℕ) → fresh ≤ length next → given ≡ 0
    → 0 < length (free_slots next first given fresh) → fresh < length next
fresh-left next first given fresh le none some =
    omega (arith, some, none, length-free next first given fresh le)

range-first : (first n : ℕ) → 0 < n → range_with_len first n ≡ first ∷ range_with_len (first + 1) (n - 1)
range-first first zero some = absurd (omega arith)
range-first first (suc n) some =
    let e : suc n - 1 ≡ n = omega arith in
    ap (λ k. first ∷ range_with_len (first + 1) k) (sym e)

-- if none was given back
pub free-fresh : (next : List ℕ) (first given fresh : ℕ) → given ≡ 0 → fresh < length next
    → free_slots next first given fresh ≡ fresh ∷ free_slots next first given (fresh + 1)
unfolding chain
free-fresh next first given fresh none lt =
    let e : length next - fresh - 1 ≡ length next - (fresh + 1) = omega arith in
    rw none (range-first fresh (length next - fresh) (omega (arith, lt))
    ∙ ap (λ k. fresh ∷ range_with_len (fresh + 1) k) e)

-- if one was
pub free-given : (next : List ℕ) (first given fresh : ℕ) → 0 < given → free_slots next first given fresh ≡
    first ∷ free_slots next (slice_index next first) (given - 1) fresh
free-given next first given fresh some =
    ap (λ xs. xs ++ range_with_len fresh (length next - fresh)) (chain-first next first given some)

-- a slot that is not free was not given back
pub given-none : (next : List ℕ) (first given fresh slot : ℕ)
    → occurrences slot (free_slots next first given fresh) ≡ 0
    → occurrences slot (chain next first given) ≡ 0
given-none next first given fresh slot none = omega (
  arith,
  none,
  occurrences-append slot (chain next first given) (range_with_len fresh (length next - fresh)),
)

-- the link of a slot that is not free
pub free-set : (next : List ℕ) (slot after first given fresh : ℕ)
    → occurrences slot (free_slots next first given fresh) ≡ 0
    → free_slots (set next slot after) first given fresh ≡ free_slots next first given fresh
free-set next slot after first given fresh none =
    let len = length-set next slot after in
    ap (λ n. chain (set next slot after) first given ++ range_with_len fresh (n - fresh)) len
    ∙ ap (λ xs. xs ++ range_with_len fresh (length next - fresh))
    (chain-set next slot after first given (given-none next first given fresh slot none))

-- a slot is given back
pub free-more : (next : List ℕ) (slot first given fresh : ℕ) → slot < length next
    → occurrences slot (free_slots next first given fresh) ≡ 0
    → free_slots (set next slot first) slot (given + 1) fresh ≡ slot ∷ free_slots next first given fresh
free-more next slot first given fresh low none =
    let len = length-set next slot first in
    ap (λ n. chain (set next slot first) slot (given + 1) ++ range_with_len fresh (n - fresh)) len
    ∙ ap (λ xs. xs ++ range_with_len fresh (length next - fresh))
    (chain-given next slot first given low (given-none next first given fresh slot none))

-- the last slot of a chain is once in it and in the slots that were given back
once-given : (next : List ℕ) (first last count to given fresh : ℕ) → IsChain next first last count
    → occurrences last (chain next first count ++ free_slots next to given fresh) ≡ 1
    → occurrences last (chain next first count ++ chain next to given) ≡ 1
once-given next first last count to given fresh is once =
    let C = chain next first count in
    let G = chain next to given in
    let R = range_with_len fresh (length next - fresh) in
    let in_chain : 1 ≤ occurrences last C =
    rw (sym is.ends) at (slot_after-in next first (count - 1) count (omega (arith, is.not_empty))) in
    omega (
      arith,
      once,
      occurrences-append last C (G ++ R),
      occurrences-append last G R,
      occurrences-append last C G,
      in_chain,
    )

-- the slots of a chain are given back
pub free-joined : (next : List ℕ) (first last count to given fresh : ℕ) → IsChain next first last count
    → last < length next
    → occurrences last (chain next first count ++ free_slots next to given fresh) ≡ 1
    → free_slots (set next last to) first (given + count) fresh
    ≡ chain next first count ++ free_slots next to given fresh
free-joined next first last count to given fresh is low once =
    let len = length-set next last to in
    let order : given + count ≡ count + given = omega arith in
    let R = range_with_len fresh (length next - fresh) in
    ap (λ n. chain (set next last to) first (given + count) ++ range_with_len fresh (n - fresh)) len
    ∙ ap (λ n. chain (set next last to) first n ++ R) order
    ∙ ap (λ xs. xs ++ R) (chain-joined next first last count to given is low
    (once-given next first last count to given fresh is once))
    ∙ append_assoc (chain next first count) (chain next to given) R

-- the same if links and free slots belong to a pool
pub joined : (inner next free : List ℕ) (first last count to given fresh : ℕ) → inner ≡ next
    → free_slots inner to given fresh ≡ free → IsChain next first last count → last < length next
    → occurrences last (chain next first count ++ free) ≡ 1
    → free_slots (set inner last to) first (given + count) fresh ≡ chain next first count ++ free
joined inner next free first last count to given fresh e f is low once =
    let g : free ≡ free_slots next to given fresh =
    sym f ∙ ap (λ xs. free_slots xs to given fresh) e in
    rw (e, g) (free-joined next first last count to given fresh is low
    (ap (λ xs. occurrences last (chain next first count ++ xs)) (sym g) ∙ once))

pub joined-below : (inner next free : List ℕ) (first last count to given fresh : ℕ) → inner ≡ next
    → free_slots inner to given fresh ≡ free → IsChain next first last count → last < length next
    → occurrences last (chain next first count ++ free) ≡ 1
    → AreBelow (length next) (chain next first count) → AreBelow (length inner) (chain inner to given)
    → AreBelow (length (set inner last to)) (chain (set inner last to) first (given + count))
joined-below inner next free first last count to given fresh e f is low once below given_below =
    let g : free ≡ free_slots next to given fresh =
    sym f ∙ ap (λ xs. free_slots xs to given fresh) e in
    let order : given + count ≡ count + given = omega arith in
    let len : length (set inner last to) ≡ length next = length-set inner last to ∙ ap length e in
    let rest : AreBelow (length next) (chain next to given) = rw (sym e) given_below in
    rw (
      len,
      e,
      order,
      chain-joined next first last count to given is low
          (once-given next first last count to given fresh is
          (ap (λ xs. occurrences last (chain next first count ++ xs)) (sym g) ∙ once)),
    )
    (below-append (length next) (chain next first count) (chain next to given) below rest)
