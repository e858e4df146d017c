-- Jumps along chains, as links change and as jumps are laid.
use Rattle.std.proofs.Common.{◌≡◌, ◌≢◌, ℕ, ◌+◌, ◌<◌, ◌≤◌, zero, suc, List, ◌++◌}
use Rattle.std.proofs.Common.{length, take, drop, get_or, set, arith, sym, ap, ap₂, ◌∙◌, inl, inr}
use Rattle.std.proofs.Common.{length-set}
use Rattle.std.proofs.lemmas.Bool.{cases_lt}
use Rattle.std.proofs.lemmas.List.{get_or-set_same, get_or-set_other}
use Rattle.std.proofs.Math.ListN.{get_or-eq_default}
use Rattle.std.proofs.Math.Seq.{take-append_seam}
use Rattle.std.specs.Prelude.{slice_index}
use Rattle.sg_pool.specs.Chains.{slot_after}
use Rattle.sg_pool.specs.Jumps.{AreJumpsOver}
use Rattle.sg_pool.proofs.LinkLemmas.{slot_after-none, slot_after-more}

-- two numbers are the same, or not
pub data IsSame (x y : ℕ) : Type 0 where
  same : x ≡ y → IsSame x y
  other : x ≢ y → IsSame x y

pub same_or_not : (x y : ℕ) → IsSame x y
same_or_not x y = elim (cases_lt x y) [
  | inl lt ↦ other (λ e. absurd (omega arith))
  | inr ge ↦ elim (cases_lt y x) [
    | inl gt ↦ other (λ e. absurd (omega arith))
    | inr le ↦ same (omega arith)
  ]
]

-- a slot of which more than nothing is kept is in the list
pub index-below : (xs : List ℕ) (i : ℕ) → 0 < get_or xs i 0 → i < length xs
index-below xs i some = elim (cases_lt i (length xs)) [
  | inl lt ↦ lt
  | inr ge ↦ let none = get_or-eq_default xs 0 ge in absurd (omega arith)
]

-- a link that none of the slots before has is changed
pub slot_after-kept : (next : List ℕ) (t to s n : ℕ)
    → ((j : ℕ) → j < n → slot_after next s j ≢ t)
    → slot_after (set next t to) s n ≡ slot_after next s n
slot_after-kept next t to s zero apart = slot_after-none (set next t to) s ∙ sym (slot_after-none next s)
slot_after-kept next t to s (suc n) apart =
    let e : n + 1 ≡ suc n = omega arith in
    let before = slot_after-kept next t to s n (λ j h. apart j (omega arith)) in
    let ne : slot_after next s n ≢ t = apart n (omega arith) in
    let more : slot_after (set next t to) s (n + 1) ≡ slot_after next s (n + 1) =
    slot_after-more (set next t to) s n
    ∙ ap (slice_index (set next t to)) before
    ∙ get_or-set_other next t (slot_after next s n) to 0 ne
    ∙ sym (slot_after-more next s n) in
    rw e at more

-- the jump over a link is dropped
pub dropped-jump : (jump : List ℕ) (o s : ℕ) → 0 < get_or (set jump o 0) s 0
    → (s ≢ o) × (get_or (set jump o 0) s 0 ≡ get_or jump s 0)
dropped-jump jump o s some = elim (same_or_not s o) [
  | other ne ↦ (ne, get_or-set_other jump o s 0 0 ne)
  | same e ↦
      let low = index-below (set jump o 0) s some in
      let len = length-set jump o 0 in
      let none : get_or (set jump o 0) s 0 ≡ 0 =
      ap (λ x. get_or (set jump o 0) x 0) e ∙ get_or-set_same jump o 0 0 (omega (arith, e, low, len)) in
      absurd (omega arith)
]

dropped-short : (jump : List ℕ) (o s : ℕ) → get_or (set jump o 0) s 0 ≤ get_or jump s 0
dropped-short jump o s = elim (cases_lt 0 (get_or (set jump o 0) s 0)) [
  | inl some ↦ let d = dropped-jump jump o s some in omega (arith, d.1)
  | inr none ↦ omega arith
]

-- the slots whose links are jumped over are others than one that another owns
pub apart-owned : (next owner jump target : List ℕ) (t s : ℕ) → AreJumpsOver next owner jump target
    → s ≢ get_or owner t 0 → (j : ℕ) → j < get_or jump s 0 → slot_after next s j ≢ t
apart-owned next owner jump target t s d ne j h e =
    ne (sym (d.owns s j h) ∙ ap (λ x. get_or owner x 0) e)

pub derived-linked : (next owner jump target : List ℕ) (t to : ℕ)
    → AreJumpsOver next owner jump target
    → AreJumpsOver (set next t to) owner (set jump (get_or owner t 0) 0) target
derived-linked next owner jump target t to d =
    let o = get_or owner t 0 in
    let len = length-set next t to in
    let len' = length-set jump o 0 in
    record {
      owners = d.owners ∙ sym len;
      jumps = len' ∙ d.jumps ∙ sym len;
      targets = d.targets ∙ sym len;
      within = λ u h. let low = d.within u (omega arith) in omega arith;
      short = λ s. let a = d.short s in let b = dropped-short jump o s in omega arith;
      leads = λ s some.
          let p = dropped-jump jump o s some in
          let n = get_or jump s 0 in
          ap (slot_after (set next t to) s) p.1
          ∙ slot_after-kept next t to s n (apart-owned next owner jump target t s d p.0)
          ∙ d.leads s (omega (arith, some, p.1));
      owns = λ s j h.
          let p = dropped-jump jump o s (omega (arith, h)) in
          let lt : j < get_or jump s 0 = omega (arith, h, p.1) in
          ap (λ x. get_or owner x 0) (slot_after-kept next t to s j
          (λ i less. apart-owned next owner jump target t s d p.0 i (omega arith)))
          ∙ d.owns s j lt;
    }

-- a slot that no jump goes over gets another owner
pub derived-owned : (next owner jump target : List ℕ) (t first : ℕ)
    → AreJumpsOver next owner jump target → get_or jump (get_or owner t 0) 0 ≡ 0
    → first < length next → AreJumpsOver next (set owner t first) jump target
derived-owned next owner jump target t first d none low =
    let len = length-set owner t first in
    record {
      owners = len ∙ d.owners;
      jumps = d.jumps;
      targets = d.targets;
      within = λ u h. elim (same_or_not u t) [
        | same e ↦
            let is : get_or (set owner t first) u 0 ≡ first =
            ap (λ x. get_or (set owner t first) x 0) e
            ∙ get_or-set_same owner t first 0 (omega (arith, h, e, d.owners)) in
            omega (arith, is, low)
        | other ne ↦ let is = get_or-set_other owner t u first 0 ne in
            omega (arith, is, d.within u h)
      ];
      short = d.short;
      leads = d.leads;
      owns = λ s j h.
          let ne : slot_after next s j ≢ t = λ e.
          let o : get_or owner t 0 ≡ s = sym (ap (λ x. get_or owner x 0) e) ∙ d.owns s j h in
          let z : get_or jump s 0 ≡ 0 = sym (ap (λ x. get_or jump x 0) o) ∙ none in
          absurd (omega arith) in
          get_or-set_other owner t (slot_after next s j) first 0 ne ∙ d.owns s j h;
    }

-- those that have it already keep it
pub owned-kept : (owner : List ℕ) (t first u : ℕ) → t < length owner → get_or owner u 0 ≡ first
    → get_or (set owner t first) u 0 ≡ first
owned-kept owner t first u low is = elim (same_or_not u t) [
  | same e ↦ ap (λ x. get_or (set owner t first) x 0) e ∙ get_or-set_same owner t first 0 low
  | other ne ↦ get_or-set_other owner t u first 0 ne ∙ is
]

-- a jump is laid
pub derived-laid : (next owner jump target : List ℕ) (first laid : ℕ)
    → AreJumpsOver next owner jump target → first < length next → laid ≤ 64
    → ((j : ℕ) → j < laid → get_or owner (slot_after next first j) 0 ≡ first)
    → AreJumpsOver next owner (set jump first laid) (set target first (slot_after next first laid))
derived-laid next owner jump target first laid d low short mine =
    let to = slot_after next first laid in
    let here : get_or (set jump first laid) first 0 ≡ laid =
    get_or-set_same jump first laid 0 (omega (arith, low, d.jumps)) in
    let there : get_or (set target first to) first 0 ≡ to =
    get_or-set_same target first to 0 (omega (arith, low, d.targets)) in
    record {
      owners = d.owners;
      jumps = length-set jump first laid ∙ d.jumps;
      targets = length-set target first to ∙ d.targets;
      within = d.within;
      short = λ s. elim (same_or_not s first) [
        | same e ↦ let is = ap (λ x. get_or (set jump first laid) x 0) e ∙ here in omega (arith, is)
        | other ne ↦ let is = get_or-set_other jump first s laid 0 ne in omega (arith, is, d.short s)
      ];
      leads = λ s some. elim (same_or_not s first) [
        | same e ↦ ap₂ (slot_after next) e (ap (λ x. get_or (set jump first laid) x 0) e ∙ here)
            ∙ sym there ∙ ap (λ x. get_or (set target first to) x 0) (sym e)
        | other ne ↦
            let is = get_or-set_other jump first s laid 0 ne in
            ap (slot_after next s) is ∙ d.leads s (omega (arith, some, is))
            ∙ sym (get_or-set_other target first s to 0 ne)
      ];
      owns = λ s j h. elim (same_or_not s first) [
        | same e ↦
            let is = ap (λ x. get_or (set jump first laid) x 0) e ∙ here in
            ap (λ x. get_or owner (slot_after next x j) 0) e ∙ mine j (omega (arith, h, is)) ∙ sym e
        | other ne ↦
            let is = get_or-set_other jump first s laid 0 ne in
            d.owns s j (omega (arith, h, is))
      ];
    }

-- a slot whose link no jump goes over has no jump
pub no-jump : (next owner jump target : List ℕ) (s : ℕ) → AreJumpsOver next owner jump target
    → get_or jump (get_or owner s 0) 0 ≡ 0 → get_or jump s 0 ≡ 0
no-jump next owner jump target s d none = elim (cases_lt 0 (get_or jump s 0)) [
  | inl some ↦
      let o : get_or owner s 0 ≡ s = sym (ap (λ x. get_or owner x 0) (slot_after-none next s))
      ∙ d.owns s 0 some in
      sym (ap (λ x. get_or jump x 0) o) ∙ none
  | inr le ↦ omega arith
]

-- a list that a call wrote back as a whole
pub take-written : (n : ℕ) (now old : List ℕ) → n ≡ length now
    → take n (now ++ drop (length now) old) ≡ now
take-written n now old e = rw e (take-append_seam now (drop (length now) old))
