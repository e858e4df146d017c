-- Leaps over jumps, as jumps are dropped and laid.
use Rattle.std.proofs.Common.{◌≡◌, ◌≢◌, ℕ, ◌+◌, ◌<◌, ◌≤◌, zero, suc, List, length}
use Rattle.std.proofs.Common.{replicate, get_or, set, arith, refl, sym, ap, ap₂, ◌∙◌, inl, inr, subst}
use Rattle.std.proofs.Common.{length-set}
use Rattle.std.proofs.lemmas.Bool.{cases_lt}
use Rattle.std.proofs.lemmas.List.{get_or-set_same, get_or-set_other, set-get_or}
use Rattle.std.proofs.lemmas.List.{get_or-replicate, length-replicate}
use Rattle.std.proofs.Math.ListN.{get_or-eq_default}
use Rattle.sg_pool.specs.Chains.{slot_after}
use Rattle.sg_pool.specs.Jumps.{AreJumpsOver, AreLeapsOver, span}
use Rattle.sg_pool.proofs.LinkLemmas.{slot_after-none, slot_after-add}
use Rattle.sg_pool.proofs.JumpLemmas.{same_or_not, slot_after-kept, derived-linked}
use Rattle.sg_pool.proofs.JumpLemmas.IsSame.{same, other}
use Rattle.sg_pool.proofs.JumpLemmas.{derived-owned, derived-laid, dropped-jump, apart-owned}

pub span-none : (jump target : List ℕ) (s : ℕ) → span jump target s 0 ≡ 0
unfolding span
span-none jump target s = refl

pub span-first : (jump target : List ℕ) (s n : ℕ)
    → span jump target s (suc n) ≡ get_or jump s 0 + span jump target (get_or target s 0) n
unfolding span
span-first jump target s n = refl

slot_after-first : (target : List ℕ) (s n : ℕ)
    → slot_after target s (suc n) ≡ slot_after target (get_or target s 0) n
unfolding slot_after
slot_after-first target s n = refl

-- one jump more
pub span-more : (jump target : List ℕ) (s n : ℕ)
    → span jump target s (n + 1) ≡ span jump target s n + get_or jump (slot_after target s n) 0
span-more jump target s zero =
    let e : 0 + 1 ≡ suc 0 = omega arith in
    let none = span-none jump target s in
    let rest = span-none jump target (get_or target s 0) in
    let here = ap (λ x. get_or jump x 0) (slot_after-none target s) in
    ap (span jump target s) e ∙ span-first jump target s 0 ∙ omega (arith, none, rest, here)
span-more jump target s (suc n) =
    let e : suc n + 1 ≡ suc (n + 1) = omega arith in
    let more = span-more jump target (get_or target s 0) n in
    let first = span-first jump target s n in
    let at = ap (λ x. get_or jump x 0) (slot_after-first target s n) in
    ap (span jump target s) e ∙ span-first jump target s (n + 1) ∙ omega (arith, more, first, at)

-- jumps that are as they were
pub span-same : (jump jump' target target' : List ℕ) (s n : ℕ)
    → ((j : ℕ) → j < n → get_or jump' (slot_after target s j) 0 ≡ get_or jump (slot_after target s j) 0)
    → ((j : ℕ) → j < n → get_or target' (slot_after target s j) 0 ≡ get_or target (slot_after target s j) 0)
    → span jump' target' s n ≡ span jump target s n
span-same jump jump' target target' s zero js ts = span-none jump' target' s ∙ sym (span-none jump target s)
span-same jump jump' target target' s (suc n) js ts =
    let none = slot_after-none target s in
    let j0 : get_or jump' s 0 ≡ get_or jump s 0 =
    ap (λ x. get_or jump' x 0) (sym none) ∙ js 0 (omega arith) ∙ ap (λ x. get_or jump x 0) none in
    let t0 : get_or target' s 0 ≡ get_or target s 0 =
    ap (λ x. get_or target' x 0) (sym none) ∙ ts 0 (omega arith) ∙ ap (λ x. get_or target x 0) none in
    let rest = span-same jump jump' target target' (get_or target s 0) n
    (λ j h. ap (λ x. get_or jump' x 0) (sym (slot_after-first target s j)) ∙ js (suc j) (omega arith)
    ∙ ap (λ x. get_or jump x 0) (slot_after-first target s j))
    (λ j h. ap (λ x. get_or target' x 0) (sym (slot_after-first target s j)) ∙ ts (suc j) (omega arith)
    ∙ ap (λ x. get_or target x 0) (slot_after-first target s j)) in
    span-first jump' target' s n ∙ ap₂ (λ a b. a + b) j0 (ap (λ x. span jump' target' x n) t0 ∙ rest)
    ∙ sym (span-first jump target s n)

-- a leap comes to where its links do
pub span-leads : (next owner jump target : List ℕ) (s n : ℕ) → AreJumpsOver next owner jump target
    → ((j : ℕ) → j < n → 0 < get_or jump (slot_after target s j) 0)
    → slot_after next s (span jump target s n) ≡ slot_after target s n
span-leads next owner jump target s zero d alive =
    ap (slot_after next s) (span-none jump target s) ∙ slot_after-none next s
    ∙ sym (slot_after-none target s)
span-leads next owner jump target s (suc n) d alive =
    let none = ap (λ x. get_or jump x 0) (slot_after-none target s) in
    let some : 0 < get_or jump s 0 = let h = alive 0 (omega arith) in omega (arith, none) in
    ap (slot_after next s) (span-first jump target s n)
    ∙ slot_after-add next s (get_or jump s 0) (span jump target (get_or target s 0) n)
    ∙ ap (λ x. slot_after next x (span jump target (get_or target s 0) n)) (d.leads s some)
    ∙ span-leads next owner jump target (get_or target s 0) n d (λ j h.
    let h' = alive (suc j) (omega arith) in
    let e = ap (λ x. get_or jump x 0) (slot_after-first target s j) in omega (arith, e))
    ∙ sym (slot_after-first target s n)

-- a link that no jump goes over is changed
pub derived-kept : (next owner jump target : List ℕ) (t to : ℕ) → AreJumpsOver next owner jump target
    → ((s j : ℕ) → j < get_or jump s 0 → slot_after next s j ≢ t)
    → AreJumpsOver (set next t to) owner jump target
derived-kept next owner jump target t to d apart =
    let len = length-set next t to in
    record {
      owners = d.owners ∙ sym len;
      jumps = d.jumps ∙ sym len;
      targets = d.targets ∙ sym len;
      within = λ u h. let low = d.within u (omega arith) in omega arith;
      short = d.short;
      leads = λ s some. slot_after-kept next t to s (get_or jump s 0) (apart s) ∙ d.leads s some;
      owns = λ s j h. ap (λ x. get_or owner x 0)
          (slot_after-kept next t to s j (λ i less. apart s i (omega arith))) ∙ d.owns s j h;
    }

-- a jump is dropped, and the leap over it
-- the leap over the jump of a slot is dropped
pub leaps-cleared : (jump target over leap landing reach : List ℕ) (o : ℕ)
    → AreLeapsOver jump target over leap landing reach
    → AreLeapsOver jump target over (set leap (get_or over o 0) 0) landing reach
leaps-cleared jump target over leap landing reach o d =
    let who = get_or over o 0 in
    let kept = λ (s : ℕ) (some : 0 < get_or (set leap who 0) s 0). dropped-jump leap who s some in
    record {
      derived = subst (λ (ts : List ℕ). AreJumpsOver ts over (set leap who 0) landing)
          (set-get_or target o 0) (derived-linked target over leap landing o (get_or target o 0) d.derived);
      reaches = d.reaches;
      alive = λ s j h.
          let p = kept s (omega (arith, h)) in
          d.alive s j (omega (arith, h, p.1));
      spans = λ s some.
          let p = kept s some in
          d.spans s (omega (arith, some, p.1)) ∙ ap (span jump target s) (sym p.1);
    }

pub leaps-dropped : (jump target over leap landing reach : List ℕ) (o : ℕ)
    → AreLeapsOver jump target over leap landing reach
    → AreLeapsOver (set jump o 0) target over (set leap (get_or over o 0) 0) landing reach
leaps-dropped jump target over leap landing reach o d =
    let who = get_or over o 0 in
    let kept = λ (s : ℕ) (some : 0 < get_or (set leap who 0) s 0). dropped-jump leap who s some in
    record {
      derived = subst (λ (ts : List ℕ). AreJumpsOver ts over (set leap who 0) landing)
          (set-get_or target o 0) (derived-linked target over leap landing o (get_or target o 0) d.derived);
      reaches = d.reaches;
      alive = λ s j h.
          let p = kept s (omega (arith, h)) in
          let lt : j < get_or leap s 0 = omega (arith, h, p.1) in
          let ne = apart-owned target over leap landing o s d.derived p.0 j lt in
          let e = get_or-set_other jump o (slot_after target s j) 0 0 ne in
          omega (arith, e, d.alive s j lt);
      spans = λ s some.
          let p = kept s some in
          d.spans s (omega (arith, some, p.1))
          ∙ sym (span-same jump (set jump o 0) target target s (get_or leap s 0)
          (λ j h. get_or-set_other jump o (slot_after target s j) 0 0
          (apart-owned target over leap landing o s d.derived p.0 j h))
          (λ j h. refl))
          ∙ ap (span (set jump o 0) target s) (sym p.1);
    }

-- a jump is laid where there was none
pub leaps-laid : (jump target over leap landing reach : List ℕ) (first laid to : ℕ)
    → AreLeapsOver jump target over leap landing reach → get_or jump first 0 ≡ 0
    → AreLeapsOver (set jump first laid) (set target first to) over leap landing reach
leaps-laid jump target over leap landing reach first laid to d none =
    let apart = λ (s j : ℕ) (h : j < get_or leap s 0).
    let ne : slot_after target s j ≢ first = λ e.
    let z = ap (λ x. get_or jump x 0) e in absurd (omega (arith, d.alive s j h, z, none)) in ne in
    record {
      derived = derived-kept target over leap landing first to d.derived apart;
      reaches = d.reaches ∙ sym (length-set target first to);
      alive = λ s j h.
          let e = get_or-set_other jump first (slot_after target s j) laid 0 (apart s j h) in
          let same = ap (λ x. get_or (set jump first laid) x 0)
          (slot_after-kept target first to s j (λ i less. apart s i (omega arith))) in
          omega (arith, e, same, d.alive s j h);
      spans = λ s some. d.spans s some
          ∙ sym (span-same jump (set jump first laid) target (set target first to) s (get_or leap s 0)
          (λ j h. get_or-set_other jump first (slot_after target s j) laid 0 (apart s j h))
          (λ j h. get_or-set_other target first (slot_after target s j) to 0 (apart s j h)));
    }

-- a slot over which nothing leaps gets another owner
pub leaps-owned : (jump target over leap landing reach : List ℕ) (t first : ℕ)
    → AreLeapsOver jump target over leap landing reach → get_or leap (get_or over t 0) 0 ≡ 0
    → first < length target → AreLeapsOver jump target (set over t first) leap landing reach
leaps-owned jump target over leap landing reach t first d none low = record {
  derived = derived-owned target over leap landing t first d.derived none low;
  reaches = d.reaches;
  alive = d.alive;
  spans = d.spans;
}

-- a leap is laid
pub leaps-leapt : (jump target over leap landing reach : List ℕ) (first laid : ℕ)
    → AreLeapsOver jump target over leap landing reach → first < length target → laid ≤ 64
    → ((j : ℕ) → j < laid → get_or over (slot_after target first j) 0 ≡ first)
    → ((j : ℕ) → j < laid → 0 < get_or jump (slot_after target first j) 0)
    → AreLeapsOver jump target over (set leap first laid) (set landing first (slot_after target first laid))
    (set reach first (span jump target first laid))
leaps-leapt jump target over leap landing reach first laid d low short mine live =
    let far = span jump target first laid in
    let here : get_or (set leap first laid) first 0 ≡ laid =
    get_or-set_same leap first laid 0 (omega (arith, low, d.derived.jumps)) in
    record {
      derived = derived-laid target over leap landing first laid d.derived low short mine;
      reaches = length-set reach first far ∙ d.reaches;
      alive = λ s j h. elim (same_or_not s first) [
        | same e ↦
            let is = ap (λ x. get_or (set leap first laid) x 0) e ∙ here in
            let at = ap (λ x. get_or jump (slot_after target x j) 0) e in
            omega (arith, at, live j (omega (arith, h, is)))
        | other ne ↦
            let is = get_or-set_other leap first s laid 0 ne in
            d.alive s j (omega (arith, h, is))
      ];
      spans = λ s some. elim (same_or_not s first) [
        | same e ↦ ap (λ x. get_or (set reach first far) x 0) e
            ∙ get_or-set_same reach first far 0 (omega (arith, low, d.reaches))
            ∙ ap₂ (span jump target) (sym e) (sym (ap (λ x. get_or (set leap first laid) x 0) e ∙ here))
        | other ne ↦
            let is = get_or-set_other leap first s laid 0 ne in
            get_or-set_other reach first s far 0 ne ∙ d.spans s (omega (arith, some, is))
            ∙ ap (span jump target s) (sym is)
      ];
    }

-- ---- None at first

zeros-read : (n i : ℕ) → get_or {A = ℕ} (replicate n 0) i 0 ≡ 0
zeros-read n i = elim (cases_lt i n) [
  | inl lt ↦ get_or-replicate {A = ℕ} n i 0 0 lt
  | inr ge ↦ get_or-eq_default (replicate n 0) 0 (omega (arith, ge, length-replicate {A = ℕ} n 0))
]

pub none-derived : (n : ℕ) → AreJumpsOver (replicate n 0) (replicate n 0) (replicate n 0) (replicate n 0)
none-derived n = record {
  owners = refl;
  jumps = refl;
  targets = refl;
  within = λ t h. let z = zeros-read n t in omega (arith, z, h);
  short = λ s. let z = zeros-read n s in omega (arith, z);
  leads = λ s some. let z = zeros-read n s in absurd (omega (arith, z, some));
  owns = λ s j h. let z = zeros-read n s in absurd (omega (arith, z, h));
}

pub none-leaps : (n : ℕ)
    → AreLeapsOver (replicate n 0) (replicate n 0) (replicate n 0) (replicate n 0) (replicate n 0)
    (replicate n 0)
none-leaps n = record {
  derived = none-derived n;
  reaches = refl;
  alive = λ s j h. let z = zeros-read n s in absurd (omega (arith, z, h));
  spans = λ s some. let z = zeros-read n s in absurd (omega (arith, z, some));
}
