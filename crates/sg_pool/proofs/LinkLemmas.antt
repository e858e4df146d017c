-- Links between slots: chains that are cut, joined, or unchanged.
use Rattle.std.proofs.Common.{◌≡◌, ◌≢◌, ℕ, ◌+◌, ◌-◌, ◌<◌, ◌≤◌, zero, suc, List, [], ◌∷◌, ◌++◌}
use Rattle.std.proofs.Common.{length, get_or, set, arith, refl, sym, ap, ap₂, ◌∙◌}
use Rattle.std.proofs.Common.{zero-add, cond, Bool, true, false, inl, inr}
use Rattle.std.proofs.lemmas.Bool.{cases_lt, eqb-true}
use Rattle.std.proofs.lemmas.List.{get_or-set_same, get_or-set_other}
use Rattle.std.specs.Prelude.{slice_index, ◌==◌}
use Rattle.sg_pool.specs.Chains.{chain, slot_after, AreBelow, IsChain}
use Rattle.sg_table.specs.Occurrences.{one_if_equal, occurrences, IsEachOnce}
use Rattle.sg_pool.proofs.ChainLemmas.{chain-set}
use Rattle.sg_table.proofs.OccurrenceLemmas.{same_slot, not_equal, occurrences-append}
use Rattle.sg_table.proofs.OccurrenceLemmas.{occurrences-one, below_count}

-- the slots of a chain, and after some of them the rest
pub chain-append : (next : List ℕ) (first n m : ℕ)
    → chain next first (n + m) ≡ chain next first n ++ chain next (slot_after next first n) m
unfolding chain slot_after
chain-append next first zero m = ap (chain next first) (zero-add m)
chain-append next first (suc n) m =
    let e : suc n + m ≡ suc (n + m) = omega arith in
    ap (chain next first) e ∙ ap (λ xs. first ∷ xs) (chain-append next (slice_index next first) n m)

pub slot_after-add : (next : List ℕ) (first n m : ℕ)
    → slot_after next first (n + m) ≡ slot_after next (slot_after next first n) m
unfolding slot_after
slot_after-add next first zero m = ap (slot_after next first) (zero-add m)
slot_after-add next first (suc n) m =
    let e : suc n + m ≡ suc (n + m) = omega arith in
    ap (slot_after next first) e ∙ slot_after-add next (slice_index next first) n m

pub slot_after-none : (next : List ℕ) (first : ℕ) → slot_after next first 0 ≡ first
unfolding slot_after
slot_after-none next first = refl

pub slot_after-one : (next : List ℕ) (first : ℕ) → slot_after next first 1 ≡ slice_index next first
unfolding slot_after
slot_after-one next first = refl

pub slot_after-more : (next : List ℕ) (first n : ℕ)
    → slot_after next first (n + 1) ≡ slice_index next (slot_after next first n)
slot_after-more next first n = slot_after-add next first n 1
    ∙ slot_after-one next (slot_after next first n)

pub chain-none : (next : List ℕ) (first : ℕ) → chain next first 0 ≡ []
unfolding chain
chain-none next first = refl

pub chain-one : (next : List ℕ) (first : ℕ) → chain next first 1 ≡ first ∷ []
unfolding chain
chain-one next first = refl

-- a chain with its last slot apart
pub chain-last : (next : List ℕ) (first n : ℕ)
    → chain next first (n + 1) ≡ chain next first n ++ slot_after next first n ∷ []
chain-last next first n = chain-append next first n 1
    ∙ ap (λ xs. chain next first n ++ xs) (chain-one next (slot_after next first n))

pub slot_after-in : (next : List ℕ) (first n m : ℕ) → n < m
    → 1 ≤ occurrences (slot_after next first n) (chain next first m)
slot_after-in next first n m lt =
    let s = slot_after next first n in
    let e : n + 1 + (m - (n + 1)) ≡ m = omega arith in
    let parts = rw e at (chain-append next first (n + 1) (m - (n + 1))) in
    let a = occurrences-append s (chain next first (n + 1))
    (chain next (slot_after next first (n + 1)) (m - (n + 1))) in
    let b : occurrences s (chain next first (n + 1)) ≡
    occurrences s (chain next first n ++ s ∷ []) =
    ap (occurrences s) (chain-last next first n) in
    let d = occurrences-append s (chain next first n) (s ∷ []) in
    let f = occurrences-one s s in
    let one = same_slot s in
    rw parts (omega arith)

-- a link of a slot that the chain does not have
pub slot_after-set : (next : List ℕ) (t to first n : ℕ) → occurrences t (chain next first n) ≡ 0
    → slot_after (set next t to) first n ≡ slot_after next first n
unfolding chain occurrences slot_after
slot_after-set next t to first zero none = refl
slot_after-set next t to first (suc n) none =
    let other : first ≢ t = not_equal t first (omega arith) in
    let same : get_or (set next t to) first 0 ≡ get_or next first 0 =
    get_or-set_other next t first to 0 other in
    ap (λ x. slot_after (set next t to) x n) same
    ∙ slot_after-set next t to (slice_index next first) n (omega arith)

-- a link from the last slot of a chain
pub chain-linked : (next : List ℕ) (last to first n m : ℕ) → last ≡ slot_after next first n
    → last < length next → occurrences last (chain next first n) ≡ 0
    → occurrences last (chain next to m) ≡ 0
    → chain (set next last to) first (n + 1 + m) ≡ chain next first (n + 1) ++ chain next to m
chain-linked next last to first n m is low apart other =
    let left : chain (set next last to) first n ≡ chain next first n =
    chain-set next last to first n apart in
    let end : slot_after (set next last to) first n ≡ last =
    slot_after-set next last to first n apart ∙ sym is in
    let on : slot_after (set next last to) first (n + 1) ≡ to =
    slot_after-more (set next last to) first n ∙ ap (slice_index (set next last to)) end
    ∙ get_or-set_same next last to 0 low in
    let front : chain (set next last to) first (n + 1) ≡ chain next first (n + 1)
    = chain-last (set next last to) first n ∙ ap₂ (λ xs s. xs ++ s ∷ []) left (end ∙ is)
    ∙ sym (chain-last next first n) in
    chain-append (set next last to) first (n + 1) m
    ∙ ap₂ (λ xs s. xs ++ chain (set next last to) s m) front on
    ∙ ap (λ xs. chain next first (n + 1) ++ xs) (chain-set next last to to m other)

-- the same, part by part
pub linked-front : (next : List ℕ) (last to first n : ℕ) → last ≡ slot_after next first n
    → last < length next → occurrences last (chain next first n) ≡ 0
    → chain (set next last to) first (n + 1) ≡ chain next first (n + 1)
linked-front next last to first n is low apart =
    let left : chain (set next last to) first n ≡ chain next first n =
    chain-set next last to first n apart in
    let end : slot_after (set next last to) first n ≡ last =
    slot_after-set next last to first n apart ∙ sym is in
    chain-last (set next last to) first n ∙ ap₂ (λ xs s. xs ++ s ∷ []) left (end ∙ is)
    ∙ sym (chain-last next first n)

pub linked-on : (next : List ℕ) (last to first n : ℕ) → last ≡ slot_after next first n
    → last < length next → occurrences last (chain next first n) ≡ 0
    → slot_after (set next last to) first (n + 1) ≡ to
linked-on next last to first n is low apart =
    let end : slot_after (set next last to) first n ≡ last =
    slot_after-set next last to first n apart ∙ sym is in
    slot_after-more (set next last to) first n ∙ ap (slice_index (set next last to)) end
    ∙ get_or-set_same next last to 0 low

pub below-append : (count : ℕ) (xs ys : List ℕ) → AreBelow count xs → AreBelow count ys
    → AreBelow count (xs ++ ys)
unfolding AreBelow
below-append count [] ys h k = k
below-append count (x ∷ xs) ys h k = (h.0, below-append count xs ys h.1 k)

-- a slot in a part of a list where each slot occurs once
pub below-part : (count : ℕ) (xs ys all : List ℕ) → IsEachOnce count all
    → ((t : ℕ) → occurrences t all ≡ occurrences t xs + occurrences t ys) → AreBelow count xs
unfolding AreBelow occurrences
below-part count [] ys all once parts = tt
below-part count (x ∷ xs) ys all once parts =
    let here = parts x in
    let one = same_slot x in (
      below_count count all x once (omega arith),
      below-part count xs (x ∷ ys) all once (λ t. let e = parts t in omega arith),
    )

-- a chain before the chain that its last slot is linked to
pub chain-joined : (next : List ℕ) (first last count to m : ℕ) → IsChain next first last count
    → last < length next → occurrences last (chain next first count ++ chain next to m) ≡ 1
    → chain (set next last to) first (count + m) ≡ chain next first count ++ chain next to m
chain-joined next first last count to m is low once =
    let n = count - 1 in
    let some = is.not_empty in
    let e : n + 1 ≡ count = omega arith in
    let a = occurrences-append last (chain next first count) (chain next to m) in
    let b : occurrences last (chain next first count) ≡
    occurrences last (chain next first n ++ last ∷ [])
    = ap (λ k. occurrences last (chain next first k)) (sym e)
    ∙ ap (occurrences last) (chain-last next first n)
    ∙ ap (λ s. occurrences last (chain next first n ++ s ∷ [])) (sym is.ends) in
    let d = occurrences-append last (chain next first n) (last ∷ []) in
    let f = occurrences-one last last in
    let one = same_slot last in
    rw e at (chain-linked next last to first n m is.ends low (omega arith) (omega arith))

one_test : (b : Bool) → 0 < cond b 1 0 → b ≡ true
one_test true h = refl
one_test false h = absurd (omega arith)

pub equal_one : (t x : ℕ) → 0 < one_if_equal t x → x ≡ t
equal_one t x h = eqb-true x t (one_test (x == t) h)

-- a slot that is in a list
pub below-in : (count t : ℕ) (xs : List ℕ) → AreBelow count xs → 1 ≤ occurrences t xs → t < count
unfolding AreBelow occurrences
below-in count t [] h some = absurd (omega arith)
below-in count t (x ∷ xs) h some = elim (cases_lt 0 (one_if_equal t x)) [
  | inl here ↦ let e = equal_one t x here in rw (sym e) h.0
  | inr other ↦ below-in count t xs h.1 (omega arith)
]

-- ---- Slots below a count

pub below-left : (count : ℕ) (xs ys : List ℕ) → AreBelow count (xs ++ ys) → AreBelow count xs
unfolding AreBelow
below-left count [] ys h = tt
below-left count (x ∷ xs) ys h = (h.0, below-left count xs ys h.1)

pub below-right : (count : ℕ) (xs ys : List ℕ) → AreBelow count (xs ++ ys) → AreBelow count ys
unfolding AreBelow
below-right count [] ys h = h
below-right count (x ∷ xs) ys h = below-right count xs ys h.1

pub below-one : (count x : ℕ) → AreBelow count (x ∷ []) → x < count
unfolding AreBelow
below-one count x h = h.0

pub below-from : (count : ℕ) (next : List ℕ) (first n m : ℕ) → n ≤ m
    → AreBelow count (chain next first m) → AreBelow count (chain next (slot_after next first n) (m - n))
below-from count next first n m le h =
    let e : n + (m - n) ≡ m = omega arith in
    below-right count (chain next first n) (chain next (slot_after next first n) (m - n))
    (rw (chain-append next first n (m - n)) at (rw (sym e) at h))

pub below-front : (count : ℕ) (next : List ℕ) (first n m : ℕ) → n ≤ m
    → AreBelow count (chain next first m) → AreBelow count (chain next first n)
below-front count next first n m le h =
    let e : n + (m - n) ≡ m = omega arith in
    below-left count (chain next first n) (chain next (slot_after next first n) (m - n))
    (rw (chain-append next first n (m - n)) at (rw (sym e) at h))

pub slot-below : (count : ℕ) (next : List ℕ) (first n m : ℕ) → n < m
    → AreBelow count (chain next first m) → slot_after next first n < count
slot-below count next first n m lt h =
    let front = below-front count next first (n + 1) m (omega arith) h in
    below-one count (slot_after next first n)
    (below-right count (chain next first n) (slot_after next first n ∷ [])
    (rw (chain-last next first n) at front))

-- the first slot of a chain
pub slot-low : (count : ℕ) (next : List ℕ) (slot left : ℕ) → 0 < left
    → AreBelow count (chain next slot left) → slot < count
slot-low count next slot left some below =
    let low = slot-below count next slot 0 left some below in
    omega (arith, low, slot_after-none next slot)
