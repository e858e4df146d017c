-- Records that are removed from the table.
use Rattle.std.proofs.Common.{◌≡◌, ◌≢◌, ℕ, ◌+◌, ◌<◌, ◌≤◌, zero, suc, List, [], ◌∷◌, ◌++◌, length}
use Rattle.std.proofs.Common.{get_or, arith, refl, sym, ap, ◌∙◌, length-append, ◌⊎◌, cond}
use Rattle.std.proofs.Common.{true, false, Some, None, inl, inr}
use Rattle.std.proofs.lemmas.Bool.{cases_lt}
use Rattle.std.proofs.lemmas.Bool.Decides.{nat_tests}
use Rattle.std.proofs.lemmas.List.Edits.{length-insert}
use Rattle.std.specs.List.{splice}
use Rattle.std.specs.Prelude.{take, drop, insert, not}
use Rattle.std.specs.Ordering.{nat_cmp}
use Rattle.std.specs.Cmp.{nat_cmp_total}
use Rattle.std.specs.FinMap.{find, get-from_entries, same_map, nat_cmp-IsAntisymmetric}
use Rattle.sg_store.specs.Disk.{Mapping, lies_in, unmapped}
use Rattle.sg_table.specs.Records.{start_of, IsSorted, IsLowerBound}
use Rattle.sg_pool.specs.MappedRecords.{Seen, entries_by, contents_by}
use Rattle.sg_table.specs.Records.{slots_of}
use Rattle.sg_table.specs.Occurrences.{occurrences}
use Rattle.sg_pool.specs.MappedRecords.{IsConsistent}
use Rattle.sg_table.specs.declared.run.Run.{Run}
use Rattle.sg_store.proofs.DiskLemmas.{eq_other}
use Rattle.sg_table.proofs.OccurrenceLemmas.{same_slot, occurrences-append, occurrences-insert}
use Rattle.sg_table.proofs.OccurrenceLemmas.{once-le, below_count}
use Rattle.sg_pool.proofs.MappedLemmas.{find-unmapped}
use Rattle.sg_table.proofs.IndexLemmas.{start_of-insert_below, start_of-insert_above}
use Rattle.sg_table.proofs.SpliceLemmas.{front_of, insert-splice, same-splice}
use Rattle.sg_pool.proofs.ConsistencyLemmas.{parted}
use Rattle.sg_store.proofs.UnmapLemmas.{get-unmapped}

-- the table without a record
sorted-removed : (rs : List Run) (i : ℕ) (r : Run) → i ≤ length rs → IsSorted (insert rs i r) → IsSorted rs
sorted-removed rs i r within rises x y lt below =
    let len = length-insert rs i r within in
    elim (cases_lt y i) [
      | inl y_low ↦
          let sx = start_of-insert_below rs i r x (omega arith) within in let sy =
          start_of-insert_below rs i r y y_low within in
          let up = rises x y lt (omega arith) in omega arith
      | inr y_high ↦
          let sy = start_of-insert_above rs i r y y_high within in
          elim (cases_lt x i) [
            | inl x_low ↦ let sx = start_of-insert_below rs i r x x_low within in let up =
                rises x (suc y) (omega arith) (omega arith) in omega arith
            | inr x_high ↦ let sx = start_of-insert_above rs i r x x_high within in let up =
                rises (suc x) (suc y) (omega arith) (omega arith) in omega arith
          ]
    ]

-- the slot of a record is free instead
consistent-removed : (rs : List Run) (bs : List (List ℕ)) (free : List ℕ) (room i : ℕ) (r : Run)
    → i ≤ length rs → IsConsistent (insert rs i r) bs free room
    → IsConsistent rs bs (r.first ∷ free) room
consistent-removed rs bs free room i r within consistent = record {
  sorted = sorted-removed rs i r within consistent.sorted;
  once = record {
    each = λ t.
        let p = parted t r.first (slots_of rs) free in let d =
        occurrences-append t (slots_of (insert rs i r)) free in let e =
        occurrences-insert t rs i r in
        let same : occurrences t (slots_of rs ++ r.first ∷ free) ≡
        occurrences t (slots_of (insert rs i r) ++ free) = omega arith in same
        ∙ consistent.once.each t;
  };
  count = omega (arith, consistent.count, length-insert rs i r within);
  pool = consistent.pool;
}

-- facts about the slot of a record
slot-used : (rs : List Run) (bs : List (List ℕ)) (free : List ℕ) (room i : ℕ) (r : Run)
    → i ≤ length rs → IsConsistent (insert rs i r) bs free room
    → (r.first < length bs) × (occurrences r.first free ≡ 0) × (length free < room)
slot-used rs bs free room i r within consistent =
    let slots = slots_of (insert rs i r) ++ free in
    let both = occurrences-append r.first (slots_of (insert rs i r)) free in
    let some = occurrences-insert r.first rs i r in
    let one = same_slot r.first in
    let at_most = once-le (length bs) slots r.first consistent.once in (
      below_count (length bs) slots r.first consistent.once (omega arith),
      omega arith,
      omega (arith, consistent.count, length-insert rs i r within),
    )

-- the records from one index to another are removed, in turn
module _ (rs : List Run) (from i : ℕ) (r : Run) (le : from ≤ i) (lt : i < length rs)
    (at : r ≡ get_or rs i r) where
  abbrev less : List Run
  less = splice rs from (i + 1) []

  one_less : splice rs from i [] ≡ insert less from r
  one_less =
      let begin : from + 0 ≡ from = omega arith in
      sym (same-splice rs [] from i r lt at)
      ∙ sym (rw begin at (insert-splice rs [] from (i + 1) r (omega arith)))

  within : from ≤ length less
  within = omega (arith, length-append (take from rs) ([] ++ drop (i + 1) rs), front_of rs from (omega arith))

  module _ (bs : List (List ℕ)) (free : List ℕ) (room : ℕ)
      (h : IsConsistent (splice rs from i []) bs free room) where
    pub unmapped-slot : (r.first < length bs) × (occurrences r.first free ≡ 0) × (length free < room)
    unmapped-slot = slot-used less bs free room from r within (rw one_less at h)

    pub unmapped-consistent : IsConsistent less bs (r.first ∷ free) room
    unmapped-consistent = consistent-removed less bs free room from r within (rw one_less at h)

-- the address of a record that stays
find-drop : (see : Seen Mapping) (rs : List Run) (n q : ℕ)
    → ((i : ℕ) → i < n → i < length rs → start_of rs i ≢ q)
    → find nat_cmp q (entries_by see (drop n rs)) ≡ find nat_cmp q (entries_by see rs)
find-drop see rs zero q other = refl
find-drop see [] (suc n) q other = refl
find-drop see (x ∷ rs) (suc n) q other =
    rw (eq_other q x.start (λ e. other 0 (omega arith) (omega arith) (sym e)))
    (find-drop see rs n q (λ i lt h. other (suc i) (omega arith) (omega arith)))

find-splice : (see : Seen Mapping) (rs : List Run) (from to q : ℕ) → from ≤ to
    → ((i : ℕ) → from ≤ i → i < to → i < length rs → start_of rs i ≢ q)
    → find nat_cmp q (entries_by see (splice rs from to [])) ≡ find nat_cmp q (entries_by see rs)
find-splice see rs zero to q le other = find-drop see rs to q (λ i lt h. other i (omega arith) lt h)
find-splice see rs (suc from) zero q le other = absurd (omega arith)
find-splice see [] (suc from) (suc to) q le other = refl
find-splice see (x ∷ rs) (suc from) (suc to) q le other =
    ap (cond _ (Some (see x.first x.kind)))
    (find-splice see rs from to q (omega arith)
    (λ i ge lt h. other (suc i) (omega arith) (omega arith) (omega arith)))

-- and of one that is removed
drop-none : (see : Seen Mapping) (rs : List Run) (n q : ℕ)
    → ((i : ℕ) → n ≤ i → i < length rs → start_of rs i ≢ q)
    → find nat_cmp q (entries_by see (drop n rs)) ≡ None
drop-none see rs zero q other = find-unmapped see rs q (λ i h. other i (omega arith) h)
drop-none see [] (suc n) q other = refl
drop-none see (x ∷ rs) (suc n) q other =
    drop-none see rs n q (λ i ge h. other (suc i) (omega arith) (omega arith))

splice-none : (see : Seen Mapping) (rs : List Run) (from to q : ℕ) → from ≤ to
    → ((i : ℕ) → i < from → i < length rs → start_of rs i ≢ q)
    → ((i : ℕ) → to ≤ i → i < length rs → start_of rs i ≢ q)
    → find nat_cmp q (entries_by see (splice rs from to [])) ≡ None
splice-none see rs zero to q le before after = drop-none see rs to q after
splice-none see rs (suc from) zero q le before after = absurd (omega arith)
splice-none see [] (suc from) (suc to) q le before after = refl
splice-none see (x ∷ rs) (suc from) (suc to) q le before after =
    rw (eq_other q x.start (λ e. before 0 (omega arith) (omega arith) (sym e)))
    (splice-none see rs from to q (omega arith)
    (λ i lt h. before (suc i) (omega arith) (omega arith))
    (λ i ge h. after (suc i) (omega arith) (omega arith)))

-- the contents without the records of a range
module _ (see : Seen Mapping) (rs : List Run) (from to a k : ℕ) (rises : IsSorted rs)
    (p : IsLowerBound rs from a) (t : IsLowerBound rs to (a + k)) (le : from ≤ to) where
  outside : (q : ℕ) → (q < a) ⊎ (a + k ≤ q)
      → find nat_cmp q (entries_by see (splice rs from to [])) ≡
      find nat_cmp q (entries_by see rs)
  outside q out = find-splice see rs from to q le (λ i ge lt h e.
      let low : a ≤ start_of rs i = p.after i ge h in
      let high : start_of rs i < a + k = t.before i lt in
      elim out [ inl below ↦ absurd (omega arith) | inr above ↦ absurd (omega arith) ])

  inside : (q : ℕ) → a ≤ q → q < a + k → find nat_cmp q (entries_by see (splice rs from to [])) ≡ None
  inside q low high = splice-none see rs from to q le
      (λ i lt h e. let b : start_of rs i < a = p.before i lt in absurd (omega arith))
      (λ i ge h e. let b : a + k ≤ start_of rs i = t.after i ge h in absurd (omega arith))

  at_each : (q : ℕ) → find nat_cmp q (entries_by see (splice rs from to [])) ≡
      cond (not (lies_in a k q)) (find nat_cmp q (entries_by see rs)) None
  at_each q = elim (cases_lt q a) [
    | inl below ↦ let no : lies_in a k q ≡ false = grind (arith, nat_tests) in rw no (outside q (inl below))
    | inr low ↦ elim (cases_lt q (a + k)) [
      | inl high ↦ let yes : lies_in a k q ≡ true = grind (arith, nat_tests) in rw yes (inside q low high)
      | inr above ↦ let no : lies_in a k q ≡ false = grind (arith, nat_tests) in rw no (outside q (inr above))
    ]
  ]

  pub contents-unmapped : contents_by see (splice rs from to []) ≡ unmapped (contents_by see rs) a k
  contents-unmapped = same_map nat_cmp_total nat_cmp-IsAntisymmetric _ _ (λ q.
      get-from_entries nat_cmp_total (entries_by see (splice rs from to [])) q
      ∙ at_each q
      ∙ ap (λ o. cond (not (lies_in a k q)) o None)
      (sym (get-from_entries nat_cmp_total (entries_by see rs) q))
      ∙ sym (get-unmapped (contents_by see rs) a k q))
