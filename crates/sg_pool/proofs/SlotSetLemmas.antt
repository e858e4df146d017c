-- Bits in words, and the numbers whose bit is 0.
use Rattle.std.proofs.Common.{◌≡◌, ◌≢◌, ℕ, ◌+◌, ◌*◌, ◌/◌, ◌%◌, ◌^◌, ◌<◌, ◌≤◌, zero, suc}
use Rattle.std.proofs.Common.{get_or, set, get_or-set_same, replicate}
use Rattle.std.proofs.lemmas.List.{get_or-set_other, get_or-replicate, length-replicate}
use Rattle.std.proofs.Math.ListN.{get_or-eq_default}
use Rattle.std.proofs.Common.{List, ◌∷◌, length, arith, refl, sym, ap, ap₂, ◌∙◌, subst}
use Rattle.std.proofs.Common.{cond, Bool, true, false, inl, inr}
use Rattle.std.proofs.lemmas.Bool.{cases_lt, cases_eq, eqb-true}
use Rattle.std.proofs.lemmas.Nat.Bits.{bit_at-lt, bit_at-zero, bit_at_ones}
use Rattle.std.specs.Int.{bit_at}
use Rattle.std.specs.List.{range_with_len}
use Rattle.std.specs.Prelude.{slice_index, ◌==◌}
use Rattle.sg_table.specs.Occurrences.{one_if_equal, occurrences}
use Rattle.sg_table.proofs.OccurrenceLemmas.{same_slot, occurrences-more}
use Rattle.sg_pool.specs.Slots.{Gains}
use Rattle.sg_pool.proofs.LinkLemmas.{equal_one}
use Rattle.sg_pool.specs.SlotSets.{absent_slots, bit_of, full_word, zeros_from, IsSlotSet}
use Rattle.sg_pool.specs.SlotSets.{IsSummary}
use Rattle.sg_pool.specs.declared.slot_set.SlotSet.{SlotSet}

-- ---- Numbers that are not equal

neq_lt : (a b : ℕ) → a ≤ b → a ≢ b → a < b
neq_lt a b le other = elim (cases_lt a b) [
  | inl lt ↦ lt
  | inr ge ↦ absurd (other (omega arith))
]

neq_one : (n : ℕ) → n < 2 → n ≢ 1 → n ≡ 0
neq_one n lt other = elim (cases_lt n 1) [
  | inl none ↦ omega arith
  | inr some ↦ absurd (other (omega arith))
]

-- ---- The numbers for which a function is 0

pub zeros-same : (f g : ℕ → ℕ) (from n : ℕ) → ((m : ℕ) → from ≤ m → g m ≡ f m)
    → zeros_from g from n ≡ zeros_from f from n
zeros-same f g from zero same = refl
zeros-same f g from (suc n) same = ap₂ (λ k xs. cond (k == 0) (from ∷ xs) xs)
    (same from (omega arith)) (zeros-same f g (from + 1) n (λ m le. same m (omega arith)))

pub zeros-all : (f : ℕ → ℕ) (from n : ℕ) → ((m : ℕ) → f m ≡ 0)
    → zeros_from f from n ≡ range_with_len from n
zeros-all f from zero all = refl
zeros-all f from (suc n) all = ap₂ (λ k xs. cond (k == 0) (from ∷ xs) xs) (all from)
    (zeros-all f (from + 1) n all)

pub length-zeros : (f : ℕ → ℕ) (from n : ℕ) → length (zeros_from f from n) ≤ n
length-zeros f from zero = omega arith
length-zeros f from (suc n) = most (f from == 0) (length-zeros f (from + 1) n)
  where
    most : (b : Bool) → length (zeros_from f (from + 1) n) ≤ n
        → length (cond b (from ∷ zeros_from f (from + 1) n) (zeros_from f (from + 1) n)) ≤ suc n
    most false h = omega (arith, h)
    most true h = omega (arith, h)

zeros-zero : (f : ℕ → ℕ) (from n : ℕ) → f from ≡ 0
    → zeros_from f from (suc n) ≡ from ∷ zeros_from f (from + 1) n
zeros-zero f from n e = ap (λ k. cond (k == 0) (from ∷ zeros_from f (from + 1) n)
    (zeros_from f (from + 1) n)) e

zeros-one : (f : ℕ → ℕ) (from n : ℕ) → f from ≡ 1
    → zeros_from f from (suc n) ≡ zeros_from f (from + 1) n
zeros-one f from n e = ap (λ k. cond (k == 0) (from ∷ zeros_from f (from + 1) n)
    (zeros_from f (from + 1) n)) e

-- the lowest one becomes 1
pub zeros-first : (f g : ℕ → ℕ) (s from n : ℕ) → from ≤ s → s < from + n → f s ≡ 0
    → ((m : ℕ) → m < s → f m ≡ 1) → g s ≡ 1 → ((m : ℕ) → m ≢ s → g m ≡ f m)
    → zeros_from f from n ≡ s ∷ zeros_from g from n
zeros-first f g s from zero low high fs below gs same = absurd (omega arith)
zeros-first f g s from (suc n) low high fs below gs same = elim (cases_eq from s) [
  | inl here ↦
      let rest = zeros-same f g (from + 1) n (λ m le. same m (λ e. absurd (omega arith))) in
      zeros-zero f from n (ap f here ∙ fs)
      ∙ ap₂ (λ x xs. x ∷ xs) here (sym rest ∙ sym (zeros-one g from n (ap g here ∙ gs)))
  | inr other ↦
      let lt : from < s = omega (arith, neq_lt from s low other) in
      let one = below from lt in
      zeros-one f from n one
      ∙ zeros-first f g s (from + 1) n (omega arith) (omega arith) fs below gs same
      ∙ ap (λ xs. s ∷ xs) (sym (zeros-one g from n (same from other ∙ one)))
]

gains-first : (s : ℕ) (xs : List ℕ) → Gains s xs (s ∷ xs)
gains-first s xs = record {
  each = λ t. occurrences-more t s xs;
  count = omega arith;
}

gains-behind : (s x : ℕ) (b : Bool) (xs ys : List ℕ) → Gains s xs ys
    → Gains s (cond b (x ∷ xs) xs) (cond b (x ∷ ys) ys)
gains-behind s x false xs ys h = h
gains-behind s x true xs ys h = record {
  each = λ t. omega (arith, occurrences-more t x ys, occurrences-more t x xs, h.each t);
  count = omega (arith, h.count);
}

-- a one becomes 0
pub zeros-gain : (f g : ℕ → ℕ) (s from n : ℕ) → from ≤ s → s < from + n → f s ≡ 1 → g s ≡ 0
    → ((m : ℕ) → m ≢ s → g m ≡ f m) → Gains s (zeros_from f from n) (zeros_from g from n)
zeros-gain f g s from zero low high fs gs same = absurd (omega arith)
zeros-gain f g s from (suc n) low high fs gs same = elim (cases_eq from s) [
  | inl here ↦
      let rest = zeros-same f g (from + 1) n (λ m le. same m (λ e. absurd (omega arith))) in
      let old = zeros-one f from n (ap f here ∙ fs) ∙ sym rest in
      let new = zeros-zero g from n (ap g here ∙ gs)
      ∙ ap (λ x. x ∷ zeros_from g (from + 1) n) here in
      rw (old, new) (gains-first s (zeros_from g (from + 1) n))
  | inr other ↦
      let lt : from < s = omega (arith, neq_lt from s low other) in
      let rest = zeros-gain f g s (from + 1) n (omega arith) (omega arith) fs gs same in
      subst (λ k. Gains s (zeros_from f from (suc n)) (cond (k == 0)
      (from ∷ zeros_from g (from + 1) n) (zeros_from g (from + 1) n))) (sym (same from other))
      (gains-behind s from (f from == 0) (zeros_from f (from + 1) n) (zeros_from g (from + 1) n) rest)
]

-- ---- Which numbers they are

pub record HasZero (f : ℕ → ℕ) (from n : ℕ) : Type 0 where
  pub at : ℕ
  pub low : from ≤ at
  pub high : at < from + n
  pub is : f at ≡ 0

pub zeros-some : (f : ℕ → ℕ) (from n : ℕ) → 0 < length (zeros_from f from n) → HasZero f from n
zeros-some f from zero some = absurd (omega arith)
zeros-some f from (suc n) some = first (f from == 0) refl (zeros-some f (from + 1) n)
  where
    first : (b : Bool) → (f from == 0) ≡ b
        → (0 < length (zeros_from f (from + 1) n) → HasZero f (from + 1) n) → HasZero f from (suc n)
    first true e later = record {
      at = from;
      low = omega arith;
      high = omega arith;
      is = eqb-true (f from) 0 e;
    }
    first false e later =
        let rest = ap (λ (b : Bool). length (cond b (from ∷ zeros_from f (from + 1) n)
        (zeros_from f (from + 1) n))) e in
        let h = later (omega (arith, rest, some)) in
        record {
          at = h.at;
          low = omega (arith, h.low);
          high = omega (arith, h.high);
          is = h.is;
        }

pub zeros-member : (f : ℕ → ℕ) (t from n : ℕ) → 0 < occurrences t (zeros_from f from n) → f t ≡ 0
unfolding occurrences
zeros-member f t from zero some = absurd (omega arith)
zeros-member f t from (suc n) some = first (f from == 0) refl (zeros-member f t (from + 1) n)
  where
    first : (b : Bool) → (f from == 0) ≡ b
        → (0 < occurrences t (zeros_from f (from + 1) n) → f t ≡ 0) → f t ≡ 0
    first true e later =
        let all = ap (λ (b : Bool). occurrences t (cond b (from ∷ zeros_from f (from + 1) n)
        (zeros_from f (from + 1) n))) e in
        elim (cases_lt 0 (one_if_equal t from)) [
          | inl here ↦ ap f (sym (equal_one t from here)) ∙ eqb-true (f from) 0 e
          | inr other ↦ later
              (omega (arith, all, some, occurrences-more t from (zeros_from f (from + 1) n)))
        ]
    first false e later =
        let all = ap (λ (b : Bool). occurrences t (cond b (from ∷ zeros_from f (from + 1) n)
        (zeros_from f (from + 1) n))) e in
        later (omega (arith, all, some))

occurs-behind : (t x : ℕ) (b : Bool) (xs : List ℕ)
    → occurrences t xs ≤ occurrences t (cond b (x ∷ xs) xs)
occurs-behind t x false xs = omega arith
occurs-behind t x true xs = omega (arith, occurrences-more t x xs)

pub zeros-occur : (f : ℕ → ℕ) (s from n : ℕ) → from ≤ s → s < from + n → f s ≡ 0
    → 1 ≤ occurrences s (zeros_from f from n)
zeros-occur f s from zero low high fs = absurd (omega arith)
zeros-occur f s from (suc n) low high fs = elim (cases_eq from s) [
  | inl here ↦
      let all = zeros-zero f from n (ap f here ∙ fs)
      ∙ ap (λ x. x ∷ zeros_from f (from + 1) n) here in
      omega (
        arith,
        ap (occurrences s) all,
        occurrences-more s s (zeros_from f (from + 1) n),
        same_slot s,
      )
  | inr other ↦
      let lt : from < s = omega (arith, neq_lt from s low other) in
      omega (
        arith,
        zeros-occur f s (from + 1) n (omega arith) (omega arith) fs,
        occurs-behind s from (f from == 0) (zeros_from f (from + 1) n),
      )
]

pub lowest-le : (f : ℕ → ℕ) (r z : ℕ) → ((m : ℕ) → m < r → f m ≡ 1) → f z ≡ 0 → r ≤ z
lowest-le f r z below none = elim (cases_lt z r) [
  | inl lt ↦ absurd (omega (arith, below z lt, none))
  | inr ge ↦ ge
]

-- ---- Bits of words

pub bit_of-lt : (ws : List ℕ) (n : ℕ) → bit_of ws n < 2
bit_of-lt ws n = bit_at-lt (slice_index ws (n / 64)) (n % 64)

full-one : (ws : List ℕ) (n : ℕ) → slice_index ws (n / 64) ≡ full_word → bit_of ws n ≡ 1
full-one ws n full = ap (λ w. bit_at w (n % 64)) full ∙ bit_at_ones 64 (n % 64) (omega arith)

-- a word with a bit of 0
pub open-word : (ws : List ℕ) (n : ℕ) → bit_of ws n ≡ 0 → slice_index ws (n / 64) ≢ full_word
open-word ws n none full = absurd (omega (arith, none, full-one ws n full))

pub not-one : (ws : List ℕ) (n : ℕ) → (bit_of ws n ≡ 1 → ⊥) → bit_of ws n ≡ 0
not-one ws n never = elim (cases_eq (bit_of ws n) 1) [
  | inl one ↦ absurd (never one)
  | inr other ↦ omega (arith, neq_one (bit_of ws n) (bit_of-lt ws n) other)
]

-- ---- Summaries

pub summary-zero : (ws us : List ℕ) (n : ℕ) → IsSummary ws us → bit_of ws n ≡ 0
    → bit_of us (n / 64) ≡ 0
summary-zero ws us n sum none =
    not-one us (n / 64) (λ one. open-word ws n none ((sum (n / 64)).1 one))

module _ (ws us ws' : List ℕ) (n : ℕ) (sum : IsSummary ws us)
    (apart : (w : ℕ) → w ≢ n / 64 → slice_index ws' w ≡ slice_index ws w) where
  -- the word of the number is full now
  pub summary-full : (us' : List ℕ) → slice_index ws' (n / 64) ≡ full_word
      → bit_of us' (n / 64) ≡ 1 → ((m : ℕ) → m ≢ n / 64 → bit_of us' m ≡ bit_of us m)
      → IsSummary ws' us'
  summary-full us' full one same w = elim (cases_eq w (n / 64)) [
    | inl here ↦ (
      λ _. ap (bit_of us') here ∙ one,
      λ _. ap (slice_index ws') here ∙ full,
    )
    | inr other ↦ (
      λ e. same w other ∙ (sum w).0 (sym (apart w other) ∙ e),
      λ e. apart w other ∙ (sum w).1 (sym (same w other) ∙ e),
    )
  ]

  -- the word has still a bit of 0
  pub summary-open : slice_index ws' (n / 64) ≢ full_word → bit_of ws n ≡ 0 → IsSummary ws' us
  summary-open more none w = elim (cases_eq w (n / 64)) [
    | inl here ↦ (
      λ e. absurd (more (ap (slice_index ws') (sym here) ∙ e)),
      λ e. absurd (omega (
        arith,
        summary-zero ws us n sum none,
        ap (bit_of us) here,
        e,
      )),
    )
    | inr other ↦ (
      λ e. (sum w).0 (sym (apart w other) ∙ e),
      λ e. apart w other ∙ (sum w).1 e,
    )
  ]

  -- the bit of the number is cleared, and the bit of its word, too
  pub summary-removed : (us' : List ℕ) → bit_of ws' n ≡ 0 → bit_of us' (n / 64) ≡ 0
      → ((m : ℕ) → m ≢ n / 64 → bit_of us' m ≡ bit_of us m) → IsSummary ws' us'
  summary-removed us' none cleared same w = elim (cases_eq w (n / 64)) [
    | inl here ↦ (
      λ e. absurd (open-word ws' n none (ap (slice_index ws') (sym here) ∙ e)),
      λ e. absurd (omega (arith, cleared, ap (bit_of us') here, e)),
    )
    | inr other ↦ (
      λ e. same w other ∙ (sum w).0 (sym (apart w other) ∙ e),
      λ e. apart w other ∙ (sum w).1 (sym (same w other) ∙ e),
    )
  ]

-- ---- A word is replaced

pub bit-replaced : (ws : List ℕ) (n v : ℕ) → n / 64 < length ws
    → bit_of (set ws (n / 64) v) n ≡ bit_at v (n % 64)
bit-replaced ws n v lt =
    ap (λ w. bit_at w (n % 64)) (get_or-set_same ws (n / 64) v 0 lt)

pub bits-apart : (ws : List ℕ) (n v w m : ℕ) → n / 64 < length ws → w ≡ slice_index ws (n / 64)
    → ((i : ℕ) → i < 64 → i ≢ n % 64 → bit_at v i ≡ bit_at w i) → m ≢ n
    → bit_of (set ws (n / 64) v) m ≡ bit_of ws m
bits-apart ws n v w m lt is same other = elim (cases_eq (m / 64) (n / 64)) [
  | inl here ↦
      let apart : m % 64 ≢ n % 64 = λ e. other (omega (arith, e, here)) in
      ap (λ x. bit_at x (m % 64)) (ap (λ k. get_or (set ws (n / 64) v) k 0) here
      ∙ get_or-set_same ws (n / 64) v 0 lt)
      ∙ same (m % 64) (omega arith) apart
      ∙ ap (λ x. bit_at x (m % 64)) (is ∙ ap (slice_index ws) (sym here))
  | inr apart ↦ ap (λ x. bit_at x (m % 64)) (get_or-set_other ws (n / 64) (m / 64) v 0 apart)
]

-- ---- The lowest bit of 0

pub below-full : (w : ℕ) → w ≢ full_word → w < 2 ^ 64 → w + 1 < 2 ^ 64
below-full w more low = elim (cases_lt w full_word) [
  | inl lt ↦ omega (arith, lt)
  | inr ge ↦ absurd (more (omega (arith, ge, low)))
]

pub lowest-zero : (ws : List ℕ) (at t : ℕ) → t < 64 → bit_at (slice_index ws at) t ≡ 0
    → bit_of ws (64 * at + t) ≡ 0
lowest-zero ws at t lt none =
    let e : (64 * at + t) / 64 ≡ at = omega arith in
    let f : (64 * at + t) % 64 ≡ t = omega arith in
    ap₂ (λ k i. bit_at (slice_index ws k) i) e f ∙ none

pub lowest-below : (ws : List ℕ) (at t m : ℕ) → t < 64
    → ((w : ℕ) → w < at → slice_index ws w ≡ full_word)
    → ((i : ℕ) → i < t → bit_at (slice_index ws at) i ≡ 1) → m < 64 * at + t → bit_of ws m ≡ 1
lowest-below ws at t m lt full ones low = elim (cases_lt (m / 64) at) [
  | inl before ↦ full-one ws m (full (m / 64) before)
  | inr ge ↦
      let e : m / 64 ≡ at = omega arith in
      ap (λ k. bit_at (slice_index ws k) (m % 64)) e ∙ ones (m % 64) (omega (arith, e))
]

-- ---- Words without a bit of 1

zero-words : (n i : ℕ) → get_or (replicate {A = ℕ} n 0) i 0 ≡ 0
zero-words n i = elim (cases_lt i n) [
  | inl lt ↦ get_or-replicate {A = ℕ} n i 0 0 lt
  | inr ge ↦ get_or-eq_default (replicate {A = ℕ} n 0) 0 (omega (arith, ge, length-replicate {A = ℕ} n 0))
]

pub bit-none : (n m : ℕ) → bit_of (replicate n 0) m ≡ 0
bit-none n m = ap (λ w. bit_at w (m % 64)) (zero-words n (m / 64)) ∙ bit_at-zero (m % 64)

pub summary-none : (n m : ℕ) → IsSummary (replicate n 0) (replicate m 0)
summary-none n m w = (
  λ e. absurd (omega (arith, e, zero-words n w)),
  λ e. absurd (omega (arith, e, bit-none m w)),
)

-- ---- A slot that is not in a set

pub record HasOpen (set : SlotSet) : Type 0 where
  pub slot : ℕ
  pub below : slot < set.count
  pub is : bit_of set.slots.words.items slot ≡ 0
  pub words : bit_of set.full.words.items (slot / 64) ≡ 0
  pub groups : bit_of set.full_groups.words.items (slot / 64 / 64) ≡ 0

pub open-some : (set : SlotSet) → IsSlotSet set → 0 < length (absent_slots set) → HasOpen set
open-some set is some =
    let h = zeros-some (bit_of set.slots.words.items) 0 set.count some in
    let word = summary-zero set.slots.words.items set.full.words.items h.at is.full h.is in
    record {
      slot = h.at;
      below = omega (arith, h.high);
      is = h.is;
      words = word;
      groups = summary-zero set.full.words.items set.full_groups.words.items (h.at / 64) is.groups word;
    }

-- the first word with a bit of 0 is not after one that has it
pub open-before : (ws : List ℕ) (top n : ℕ)
    → ((w : ℕ) → w < top → slice_index ws w ≡ full_word) → bit_of ws n ≡ 0 → top ≤ n / 64
open-before ws top n full none = elim (cases_lt (n / 64) top) [
  | inl lt ↦ absurd (open-word ws n none (full (n / 64) lt))
  | inr ge ↦ ge
]
