-- EXTENDED COPY block by block.
use Rattle.std.proofs.Common.{◌≡◌, ◌≤◌, ◌<◌, ℕ, ◌+◌, ◌-◌, zero, suc, List, [], ◌∷◌, ◌++◌}
use Rattle.std.proofs.Common.{true, false, cond, Some}
use Rattle.std.proofs.Common.{refl, sym, ap, ap₂, subst, ◌∙◌, arith, append_assoc, ⊎_elim}
use Rattle.std.proofs.lemmas.Bool.{cases_lt}
use Rattle.std.proofs.lemmas.Bool.Decides.{nat_tests}
use Rattle.std.specs.Cmp.{nat_cmp_total}
use Rattle.std.specs.FinMap.{get, len, same_map, nat_cmp-IsAntisymmetric}
use Rattle.std.specs.List.{flat_map, range_with_len}
use Rattle.sg_copy.specs.declared.copy_list.Segment.{Segment}
use Rattle.sg_store.specs.Disk.{Contents, Disk, block, data_in, lies_in, need}
use Rattle.sg_store.specs.Disk.{remapped, replaced}
use Rattle.sg_store.specs.Disk.Mapping.{Data}
use Rattle.sg_store.specs.Laws.{RemappingTakesWhatIsNeeded}
use Rattle.sg_store.specs.Meter.{Meter}
use Rattle.sg_target.specs.BlockByBlock.{block_filled}
use Rattle.sg_target.specs.BlockCommands.{copied, copied_block}
use Rattle.sg_target.specs.Charge.{CostBounds, IsCounted}
use Rattle.sg_target.specs.Demands.{extent}
use Rattle.sg_target.specs.Ranges.{Range, copied_so_far, copies_forwards}
use Rattle.sg_target.specs.Ranges.{first_done}
use Rattle.sg_target.specs.Ranges.{next_copied, range, step_ranges}
use Rattle.sg_target.proofs.OrWriteLemmas.{each-more}

module _ (law : RemappingTakesWhatIsNeeded) where
  -- ---- blocks that are replaced in turn

  -- one more block at the end
  one-after : (m : Contents) (a b k : ℕ) (f g : ℕ → List ℕ) (x : List ℕ) → b ≡ a + k → x ≡ g k
      → ((j : ℕ) → f j ≡ g j)
      → replaced (replaced m a k f) b 1 (λ index. x) ≡ replaced m a (k + 1) g
  one-after m a b k f g x at is same = same_map nat_cmp_total nat_cmp-IsAntisymmetric _ _ (λ q.
      law.found (replaced m a k f) b 1 (λ index. Data x) q
      ∙ ap (cond (lies_in b 1 q) (Some (Data x))) (law.found m a k (λ index. Data (f index)) q)
      ∙ by-place q
      ∙ sym (law.found m a (k + 1) (λ index. Data (g index)) q))
    where
      by-place : (q : ℕ) → cond (lies_in b 1 q) (Some (Data x))
          (cond (lies_in a k q) (Some (Data (f (q - a)))) (get m q))
          ≡ cond (lies_in a (k + 1) q) (Some (Data (g (q - a)))) (get m q)
      by-place q = grind (arith, nat_tests, at, is, same (q - a))

  -- one more block at the beginning
  one-before : (m : Contents) (a b c k : ℕ) (f g : ℕ → List ℕ) (x : List ℕ) → c ≡ a + 1 → b ≡ a
      → x ≡ g 0 → ((j : ℕ) → f j ≡ g (j + 1))
      → replaced (replaced m c k f) b 1 (λ index. x) ≡ replaced m a (k + 1) g
  one-before m a b c k f g x next at is same = same_map nat_cmp_total nat_cmp-IsAntisymmetric _ _ (λ q.
      law.found (replaced m c k f) b 1 (λ index. Data x) q
      ∙ ap (cond (lies_in b 1 q) (Some (Data x))) (law.found m c k (λ index. Data (f index)) q)
      ∙ by-place q
      ∙ sym (law.found m a (k + 1) (λ index. Data (g index)) q))
    where
      by-place : (q : ℕ) → cond (lies_in b 1 q) (Some (Data x))
          (cond (lies_in c k q) (Some (Data (f (q - c)))) (get m q))
          ≡ cond (lies_in a (k + 1) q) (Some (Data (g (q - a)))) (get m q)
      by-place q = grind (arith, nat_tests, next, at, is, same (q - c))

  -- a block outside of those that are replaced
  left : (m : Contents) (a k q : ℕ) (f : ℕ → List ℕ) → lies_in a k q ≡ false
      → block (replaced m a k f) q ≡ block m q
  left m a k q f out =
      ap data_in (law.found m a k (λ index. Data (f index)) q
      ∙ ap (λ b. cond b (Some (Data (f (q - a)))) (get m q)) out)

  -- ---- what blocks need

  need-parts : (m : Contents) (a i k : ℕ) → need m a (i + k) ≡ need m a i + need m (a + i) k
  need-parts m a i zero =
      let e : i + 0 ≡ i = omega arith in
      rw e (omega (arith, law.of_none m (a + i)))
  need-parts m a i (suc k) =
      let e : i + suc k ≡ (i + k) + 1 = omega arith in
      let s : suc k ≡ k + 1 = omega arith in
      let at : a + (i + k) ≡ a + i + k = omega arith in
      let rest = need-parts m a i k in
      let whole = law.of_one_more m a (i + k) in
      let part = law.of_one_more m (a + i) k in
      rw e (rw s (omega (arith, rest, rw at at whole, part)))

  need-part : (m : Contents) (a b i k n : ℕ) → b ≡ a + i → i + k ≤ n → need m b k ≤ need m a n
  need-part m a b i k n at within =
      let e : n ≡ (i + k) + (n - (i + k)) = omega arith in
      let first = need-parts m a i k in
      let all = need-parts m a (i + k) (n - (i + k)) in
      rw at (rw e (omega (arith, first, all)))

  -- ---- one more block is copied

  module _ (m : Contents) (s : Segment) (done : ℕ) (below : done < s.blocks) where
    abbrev Copies : Type 0
    Copies = replaced (copied_so_far m s done) (s.destination + next_copied s done) 1
        (λ index. block (copied_so_far m s done) (s.source + next_copied s done))
        ≡ copied_so_far m s (done + 1)

    abbrev part : (first count : ℕ) → Contents
    part first count =
        replaced m (s.destination + first) count (λ index. copied_block m s (first + index))

    forwards-next : s.destination ≤ s.source
        → replaced (part 0 done) (s.destination + done) 1 (λ index. block (part 0 done) (s.source + done))
        ≡ part 0 (done + 1)
    forwards-next within =
        let apart : lies_in (s.destination + 0) done (s.source + done) ≡ false = grind (arith, nat_tests) in
        let same : s.source + done ≡ s.source + (0 + done) = omega arith in
        one-after m (s.destination + 0) (s.destination + done) done
        (λ index. copied_block m s (0 + index)) (λ index. copied_block m s (0 + index)) _ (omega arith)
        (left m (s.destination + 0) done (s.source + done) (λ index. copied_block m s (0 + index)) apart
        ∙ ap (block m) same) (λ j. refl)

    backwards-next : s.source < s.destination
        → replaced (part (s.blocks - done) done) (s.destination + (s.blocks - 1 - done)) 1
        (λ index. block (part (s.blocks - done) done) (s.source + (s.blocks - 1 - done)))
        ≡ part (s.blocks - (done + 1)) (done + 1)
    backwards-next above =
        let first = s.blocks - done in
        let index = s.blocks - 1 - done in
        let less = s.blocks - (done + 1) in
        let apart : lies_in (s.destination + first) done (s.source + index) ≡ false =
        grind (arith, nat_tests) in
        let same : s.source + index ≡ s.source + (less + 0) = omega arith in
        one-before m (s.destination + less) (s.destination + index) (s.destination + first) done
        (λ j. copied_block m s (first + j)) (λ j. copied_block m s (less + j)) _ (omega arith) (omega arith)
        (left m (s.destination + first) done (s.source + index) (λ j. copied_block m s (first + j)) apart
        ∙ ap (block m) same)
        (λ j. let e : s.source + (first + j) ≡ s.source + (less + (j + 1)) = omega arith in ap (block m) e)

    pub copies-next : Copies
    copies-next = ⊎_elim
        (λ (above : s.source < s.destination).
        let e : copies_forwards s ≡ false = grind (arith, nat_tests) in
        rw e (backwards-next above))
        (λ (within : s.destination ≤ s.source).
        let e : copies_forwards s ≡ true = grind (arith, nat_tests) in
        rw e (forwards-next within))
        (cases_lt s.source s.destination)

    -- there is room for the next block if there is room for all
    pub room-next : len (copied_so_far m s done)
        + need (copied_so_far m s done) (s.destination + next_copied s done) 1
        ≤ len m + need m s.destination s.blocks
    room-next =
        let now = copied_so_far m s done in
        let lba = s.destination + next_copied s done in
        let one = law.taken now lba 1 (λ index. Data (block now (s.source + next_copied s done))) in
        let same = ap len copies-next in
        let all = law.taken m (s.destination + first_done s (done + 1)) (done + 1)
        (λ index. Data (copied_block m s (first_done s (done + 1) + index))) in
        let within : first_done s (done + 1) + (done + 1) ≤ s.blocks = by-order in
        let part = need-part m s.destination (s.destination + first_done s (done + 1))
        (first_done s (done + 1)) (done + 1) s.blocks refl within in
        omega (arith, one, same, all, part)
      where
        by-order : first_done s (done + 1) + (done + 1) ≤ s.blocks
        by-order = grind (arith, nat_tests, below)

-- no block is copied yet
pub none-copied : (disk : Disk) (s : Segment)
    → disk ≡ record disk { contents = copied_so_far disk.contents s 0 }
unfolding remapped
none-copied disk s = refl

-- all blocks are copied
pub all-copied : (m : Contents) (s : Segment) → copied_so_far m s s.blocks ≡ copied m s
all-copied m s = ⊎_elim
    (λ (above : s.source < s.destination).
    let e : copies_forwards s ≡ false = grind (arith, nat_tests) in
    rw e (from-start (s.blocks - s.blocks) (omega arith)))
    (λ (within : s.destination ≤ s.source).
    let e : copies_forwards s ≡ true = grind (arith, nat_tests) in
    rw e (from-start 0 refl))
    (cases_lt s.source s.destination)
  where
    from-start : (first : ℕ) → first ≡ 0
        → replaced m (s.destination + first) s.blocks (λ index. copied_block m s (first + index)) ≡ copied m s
    from-start first e =
        let at : s.destination + 0 ≡ s.destination = omega arith in
        let same : (j : ℕ) → s.source + (0 + j) ≡ s.source + j = λ j. omega arith in
        ap (λ (n : ℕ). replaced m (s.destination + n) s.blocks (λ index. copied_block m s (n + index))) e
        ∙ ap (λ (a : ℕ). replaced m a s.blocks (λ index. copied_block m s (0 + index))) at
        ∙ (λ i. replaced m s.destination s.blocks (λ index. block m (same index i)))

-- and one more
pub block-next : RemappingTakesWhatIsNeeded → (before now after : Disk) (s : Segment)
    (done source destination : ℕ) → done < s.blocks
    → now ≡ record before { contents = copied_so_far before.contents s done }
    → source ≡ s.source + next_copied s done → destination ≡ s.destination + next_copied s done
    → after ≡ block_filled now destination (block now.contents source)
    → after ≡ record before { contents = copied_so_far before.contents s (done + 1) }
block-next law before now after s done source destination below so_far from to e =
    let part = record before { contents = copied_so_far before.contents s done } in
    e ∙ ap (λ (d : Disk). block_filled d destination (block d.contents source)) so_far
    ∙ ap₂ (λ (a b : ℕ). block_filled part a (block part.contents b)) to from
    ∙ ap (λ (m : Contents). record before { contents = m }) (copies-next law before.contents s done below)

module _ (bounds : CostBounds) (before : Disk) (s : Segment) where
  abbrev each : ℕ → List Range
  each n = flat_map (step_ranges before.contents s) (range_with_len 0 n)

  abbrev both : Contents → (source destination : ℕ) → List Range
  both m source destination = range m (extent source 1) ∷ range m (extent destination 1) ∷ []

  pub ranges-next : (now : Disk) (done source destination : ℕ) (over : List Range) (first last : Meter)
      → now ≡ record before { contents = copied_so_far before.contents s done }
      → source ≡ s.source + next_copied s done → destination ≡ s.destination + next_copied s done
      → IsCounted bounds now.pool ((over ++ each done) ++ both now.contents source destination) first last
      → IsCounted bounds before.pool (over ++ each (done + 1)) first last
  ranges-next now done source destination over first last so_far from to counted =
      let here = subst (λ (d : Disk). IsCounted bounds d.pool
      ((over ++ each done) ++ both d.contents source destination) first last) so_far counted in
      let read = subst (λ (a : ℕ). IsCounted bounds before.pool
      ((over ++ each done) ++ both (copied_so_far before.contents s done) a destination) first last)
      from here in
      let there = subst (λ (b : ℕ). IsCounted bounds before.pool ((over ++ each done)
      ++ both (copied_so_far before.contents s done) (s.source + next_copied s done) b) first last) to read in
      subst (λ (xs : List Range). IsCounted bounds before.pool xs first last)
      (append_assoc over (each done) (step_ranges before.contents s done)
      ∙ ap (λ (xs : List Range). over ++ xs) (sym (each-more (step_ranges before.contents s) done)))
      there
