-- The descriptors from an address on, in any number of answers.
use Rattle.std.proofs.Common.{◌≡◌, ℕ, ◌+◌, ◌-◌, ◌<◌, ◌≤◌, zero, suc, List, [], ◌∷◌, ◌++◌, length}
use Rattle.std.proofs.Common.{take, arith, refl, sym, ap, ap₂, subst, ◌∙◌, inl, inr, cond, Bool, true}
use Rattle.std.proofs.Common.{eq-eqb}
use Rattle.std.proofs.lemmas.Bool.{cases_lt}
use Rattle.std.proofs.lemmas.List.Elements.{All-nil, All-cons}
use Rattle.std.specs.List.{prefix_len, range_with_len}
use Rattle.std.specs.Prelude.{All, min, ◌==◌}
use Rattle.sg_store.specs.Disk.{Contents}
use Rattle.sg_wire.specs.LbaStatus.{code_of}
use Rattle.sg_store.specs.LbaStatus.{count_alike, covered, descriptor_at, descriptors_from}
use Rattle.sg_store.specs.LbaStatus.{max_addresses, status_at}
use Rattle.sg_wire.specs.declared.lba_status.StatusDescriptor.{StatusDescriptor}
use Rattle.sg_store.proofs.DescriptorLemmas.{alike-within, covered-first, descriptors-end}
use Rattle.sg_store.proofs.DescriptorLemmas.{descriptors-first, descriptors-none}

-- ---- One descriptor

-- the first number of a range passes
prefix-some : (p : ℕ → Bool) (a n : ℕ) → 0 < n → p a ≡ true → 0 < prefix_len p (range_with_len a n)
prefix-some p a zero some here = absurd (omega arith)
prefix-some p a (suc n) some here =
    omega (arith, ap (λ b. cond b (1 + prefix_len p (range_with_len (a + 1) n)) 0) here)

-- it covers an address
alike-some : (m : Contents) (capacity a : ℕ) → a < capacity → 0 < count_alike m capacity a
unfolding count_alike
alike-some m capacity a below =
    prefix-some (λ x. code_of (status_at m x) == code_of (status_at m a)) a
    (min max_addresses (capacity - a)) (omega arith)
    (eq-eqb (code_of (status_at m a)) (code_of (status_at m a)) refl)

-- ---- Descriptors that follow one another

module _ (m : Contents) (capacity : ℕ) where
  -- the descriptors from an address on, and the address at their end
  abbrev pub from : (start most : ℕ) → List StatusDescriptor
  from start most = descriptors_from m capacity start most

  abbrev pub end : (start most : ℕ) → ℕ
  end start most = start + covered (from start most)

  abbrev next : (start : ℕ) → ℕ
  next start = start + count_alike m capacity start

  pub end-first : (start most : ℕ) → start < capacity → end start (suc most) ≡ end (next start) most
  end-first start most below =
      let first = ap covered (descriptors-first m capacity start most below)
      ∙ covered-first (descriptor_at m capacity start) (from (next start) most) in
      omega (arith, first)

  pub end-none : (start : ℕ) → end start 0 ≡ start
  end-none start = omega (arith, ap covered (descriptors-none m capacity start))

  pub end-past : (start most : ℕ) → capacity ≤ start → end start most ≡ start
  end-past start most past = omega (arith, ap covered (descriptors-end m capacity start most past))

  -- after the first of them come the descriptors from their end on
  pub from-split : (first rest start : ℕ)
      → from start (first + rest) ≡ from start first ++ from (end start first) rest
  from-split zero rest start =
      let same : zero + rest ≡ rest = omega arith in
      ap (from start) same ∙ ap (λ a. from a rest) (sym (end-none start))
      ∙ ap (λ ds. ds ++ from (end start 0) rest) (sym (descriptors-none m capacity start))
  from-split (suc first) rest start = elim (cases_lt start capacity) [
    | inr past ↦
        let last = end-past start (suc first) past in
        descriptors-end m capacity start (suc first + rest) past
        ∙ sym (ap₂ (λ ds es. ds ++ es) (descriptors-end m capacity start (suc first) past)
        (descriptors-end m capacity (end start (suc first)) rest (omega (arith, last))))
    | inl below ↦
        let d = descriptor_at m capacity start in
        let more : suc first + rest ≡ suc (first + rest) = omega arith in
        ap (from start) more ∙ descriptors-first m capacity start (first + rest) below
        ∙ ap (λ ds. d ∷ ds) (from-split first rest (next start))
        ∙ sym (ap₂ (λ ds a. ds ++ from a rest) (descriptors-first m capacity start first below)
        (end-first start first below))
  ]

  -- fewer of them
  pub take-from : (k most start : ℕ) → take k (from start most) ≡ from start (min k most)
  take-from zero most start =
      let none : min zero most ≡ 0 = omega arith in
      sym (ap (from start) none ∙ descriptors-none m capacity start)
  take-from (suc k) zero start =
      let none : min (suc k) zero ≡ 0 = omega arith in
      ap (take (suc k)) (descriptors-none m capacity start)
      ∙ sym (ap (from start) none ∙ descriptors-none m capacity start)
  take-from (suc k) (suc most) start = elim (cases_lt start capacity) [
    | inr past ↦
        ap (take (suc k)) (descriptors-end m capacity start (suc most) past)
        ∙ sym (descriptors-end m capacity start (min (suc k) (suc most)) past)
    | inl below ↦
        let d = descriptor_at m capacity start in
        let more : min (suc k) (suc most) ≡ suc (min k most) = omega arith in
        ap (take (suc k)) (descriptors-first m capacity start most below)
        ∙ ap (λ ds. d ∷ ds) (take-from k most (next start))
        ∙ sym (ap (from start) more ∙ descriptors-first m capacity start (min k most) below)
  ]

  -- As many descriptors as there are addresses are all.
  pub from-all : (most more start : ℕ) → capacity ≤ start + most → from start (most + more) ≡ from start most
  from-all zero more start room =
      descriptors-end m capacity start (zero + more) (omega arith)
      ∙ sym (descriptors-end m capacity start zero (omega arith))
  from-all (suc most) more start room = elim (cases_lt start capacity) [
    | inr past ↦
        descriptors-end m capacity start (suc most + more) past
        ∙ sym (descriptors-end m capacity start (suc most) past)
    | inl below ↦
        let d = descriptor_at m capacity start in
        let some = alike-some m capacity start below in
        let next_one : suc most + more ≡ suc (most + more) = omega arith in
        ap (from start) next_one ∙ descriptors-first m capacity start (most + more) below
        ∙ ap (λ ds. d ∷ ds) (from-all most more (next start) (omega arith))
        ∙ sym (descriptors-first m capacity start most below)
  ]

  -- They end with the disk, or before.
  pub end-within : (most start : ℕ) → start ≤ capacity → end start most ≤ capacity
  end-within zero start low = omega (arith, end-none start)
  end-within (suc most) start low = elim (cases_lt start capacity) [
    | inr past ↦ omega (arith, end-past start (suc most) past)
    | inl below ↦
        let within = alike-within m capacity start in
        omega (arith, end-first start most below, end-within most (next start) (omega arith))
  ]

  -- All of them end with the disk.
  pub end-all : (most start : ℕ) → start ≤ capacity → capacity ≤ start + most → end start most ≡ capacity
  end-all zero start low room = omega (arith, end-none start)
  end-all (suc most) start low room = elim (cases_lt start capacity) [
    | inr past ↦ omega (arith, end-past start (suc most) past)
    | inl below ↦
        let some = alike-some m capacity start below in
        let within = alike-within m capacity start in
        end-first start most below ∙ end-all most (next start) (omega arith) (omega arith)
  ]

  -- There is a descriptor if there is an address.
  pub from-some : (most start : ℕ) → start < capacity → 0 < most → 0 < length (from start most)
  from-some zero start below some = absurd (omega arith)
  from-some (suc most) start below some =
      omega (arith, ap length (descriptors-first m capacity start most below))

  -- ---- All of them

  abbrev pub every : (start : ℕ) → List StatusDescriptor
  every start = from start (capacity - start)

  pub every-past : (start : ℕ) → capacity ≤ start → every start ≡ []
  every-past start past = descriptors-end m capacity start (capacity - start) past

  -- The first ones, and all from their end on.
  pub every-split : (first start : ℕ) → start ≤ capacity
      → every start ≡ from start first ++ every (end start first)
  every-split first start low =
      let n = capacity - start in
      let after = end start first in
      let other_way : n + first ≡ first + n = omega arith in
      let rest : (capacity - after) + (after - start) ≡ n = omega (arith, end-within first start low) in
      sym (from-all n first start (omega arith)) ∙ ap (from start) other_way
      ∙ from-split first n start
      ∙ ap (λ k. from start first ++ from after k) (sym rest)
      ∙ ap (λ ds. from start first ++ ds) (from-all (capacity - after) (after - start) after (omega arith))

  -- An answer has the first of them.
  pub take-every : (most start : ℕ) → from start most ≡ take most (every start)
  take-every most start =
      let left = capacity - start in
      let few = min most left in
      sym (take-from most left start ∙ (elim (cases_lt most left) [
        | inl fewer ↦ let same : few ≡ most = omega arith in ap (from start) same
        | inr enough ↦
            let same : few ≡ left = omega arith in
            let all : left + (most - left) ≡ most = omega arith in
            ap (from start) same ∙ sym (from-all left (most - left) start (omega arith)) ∙ ap (from start) all
      ]))

  -- ---- Each of them

  -- it ends with the disk or before, and its count fits
  abbrev pub IsNarrow : StatusDescriptor → Type 0
  IsNarrow d = (d.lba + d.count ≤ capacity) × (d.count ≤ max_addresses)

  pub each-narrow : (most start : ℕ) → All IsNarrow (from start most)
  each-narrow zero start = subst (All IsNarrow) (sym (descriptors-none m capacity start)) (All-nil IsNarrow)
  each-narrow (suc most) start = elim (cases_lt start capacity) [
    | inr past ↦
        subst (All IsNarrow) (sym (descriptors-end m capacity start (suc most) past))
        (All-nil IsNarrow)
    | inl below ↦
        let within = alike-within m capacity start in
        subst (All IsNarrow) (sym (descriptors-first m capacity start most below))
        (All-cons IsNarrow (descriptor_at m capacity start) (from (next start) most)
        (omega arith, omega arith) (each-narrow most (next start)))
  ]

  pub few : (most start : ℕ) → length (from start most) ≤ most
  few zero start = omega (arith, ap length (descriptors-none m capacity start))
  few (suc most) start = elim (cases_lt start capacity) [
    | inr past ↦ omega (arith, ap length (descriptors-end m capacity start (suc most) past))
    | inl below ↦
        omega (arith, ap length (descriptors-first m capacity start most below), few most (next start))
  ]
