-- A table and a pool that are consistent, after a step.
use Rattle.std.proofs.Common.{◌≡◌, ◌≢◌, ℕ, ◌+◌, ◌<◌, ◌≤◌, List, [], ◌∷◌, ◌++◌, length, get_or, set}
use Rattle.std.proofs.Common.{arith, refl, sym, ap, ◌∙◌, length-set, zero, suc}
use Rattle.std.proofs.lemmas.List.Edits.{length-insert}
use Rattle.std.proofs.lemmas.List.FromFn.{length-range_with_len}
use Rattle.std.specs.List.{range_with_len}
use Rattle.std.specs.Prelude.{insert}
use Rattle.std.specs.FinMap as map
use Rattle.sg_table.specs.Records.{start_of, HaveSlots, IsLowerBound}
use Rattle.sg_store.specs.Disk.Mapping.{Data, Anchored}
use Rattle.sg_pool.specs.MappedRecords.{contents_of, mapping_in}
use Rattle.sg_table.specs.Records.{slots_of, with_kind}
use Rattle.sg_table.specs.declared.run.Kind.{Kind}
use Rattle.sg_table.specs.declared.run.Kind.TheVariants.{Data as DataKind, Anchored as AnchoredKind}
use Rattle.sg_table.specs.Occurrences.{one_if_equal, occurrences, IsEachOnce}
use Rattle.sg_pool.specs.MappedRecords.{IsConsistent}
use Rattle.sg_table.specs.declared.run.Run.{Run}
use Rattle.sg_table.proofs.OccurrenceLemmas.{same_slot, occurrences-append, occurrences-more, occurrences-at}
use Rattle.sg_table.proofs.OccurrenceLemmas.{occurrences-insert, once-le, once-range, below_count}
use Rattle.sg_table.proofs.IndexLemmas.{sorted-insert}
use Rattle.sg_pool.proofs.BlockLemmas.{added, changed, seen-set, data-set}

-- the occurrences of a slot in the records and the free slots, if one free slot is taken
pub parted : (t s : ℕ) (used free : List ℕ) → occurrences t (used ++ s ∷ free) ≡
    occurrences t used + (one_if_equal t s + occurrences t free)
parted t s used free = occurrences-append t used (s ∷ free)
    ∙ ap (λ n. occurrences t used + n) (occurrences-more t s free)

-- a slot that is taken is among the slots, and belongs to no record
pub taken_below : (count : ℕ) (used free : List ℕ) (s : ℕ) → IsEachOnce count (used ++ s ∷ free) → s < count
taken_below count used free s once = let p = parted s s used free in let one = same_slot s in
    below_count count (used ++ s ∷ free) s once (omega arith)

taken_unused : (count : ℕ) (used free : List ℕ) (s : ℕ) → IsEachOnce count (used ++ s ∷ free)
    → occurrences s used ≡ 0
taken_unused count used free s once =
    let p = parted s s used free in let one = same_slot s in let e =
    once-le count (used ++ s ∷ free) s once in omega arith

taken_once : (count : ℕ) (rs : List Run) (free : List ℕ) (i : ℕ) (r : Run)
    → IsEachOnce count (slots_of rs ++ r.first ∷ free)
    → IsEachOnce count (slots_of (insert rs i r) ++ free)
taken_once count rs free i r once = record {
  each = λ t.
      let p = parted t r.first (slots_of rs) free in let d =
      occurrences-append t (slots_of (insert rs i r)) free in let e =
      occurrences-insert t rs i r in
      let same : occurrences t (slots_of (insert rs i r) ++ free) ≡
      occurrences t (slots_of rs ++ r.first ∷ free) = omega arith in same ∙ once.each t;
}

used_once : (count : ℕ) (used free : List ℕ) (s : ℕ) → IsEachOnce count (used ++ free)
    → occurrences s used ≤ 1
used_once count used free s once = let a = occurrences-append s used free in let e =
    once-le count (used ++ free) s once in omega arith

-- the slots of the records are among all
pub have_slots : (rs : List Run) (bs : List (List ℕ)) (free : List ℕ) (room : ℕ)
    → IsConsistent rs bs free room → HaveSlots rs (length bs)
have_slots rs bs free room consistent i r h e =
    let some = occurrences-at rs i r h (sym e) in
    let both = occurrences-append r.first (slots_of rs) free in
    below_count (length bs) (slots_of rs ++ free) r.first consistent.once (omega arith)

-- one more record
pub consistent-inserted : (rs : List Run) (bs : List (List ℕ)) (free : List ℕ) (room i : ℕ) (r : Run)
    → IsConsistent rs bs (r.first ∷ free) room → IsLowerBound rs i r.start
    → ((j : ℕ) → j < length rs → start_of rs j ≢ r.start)
    → IsConsistent (insert rs i r) bs free room
consistent-inserted rs bs free room i r consistent p none =
    let len : length (insert rs i r) ≡ length rs + 1 = length-insert rs i r p.within in
    record {
      sorted = sorted-insert rs i r consistent.sorted p none;
      once = taken_once (length bs) rs free i r consistent.once;
      count = omega (arith, consistent.count);
      pool = consistent.pool;
    }

pub contents-inserted : (rs : List Run) (bs : List (List ℕ)) (free : List ℕ) (room i : ℕ) (r : Run)
    → IsConsistent rs bs (r.first ∷ free) room
    → ((j : ℕ) → j < length rs → start_of rs j ≢ r.start)
    → contents_of (insert rs i r) bs
    ≡ map.insert (contents_of rs bs) r.start (mapping_in bs r.first r.kind)
contents-inserted rs bs free room i r consistent none =
    added (mapping_in bs) (mapping_in bs) rs i r none (λ t kind other. refl)
    (taken_unused (length bs) (slots_of rs) free r.first consistent.once)

-- a block set
pub consistent-over : (rs : List Run) (bs : List (List ℕ)) (free : List ℕ) (room s : ℕ) (b : List ℕ)
    → IsConsistent rs bs free room → IsConsistent rs (set bs s b) free room
consistent-over rs bs free room s b consistent = record {
  sorted = consistent.sorted;
  once = rw length-set consistent.once;
  count = consistent.count;
  pool = rw length-set consistent.pool;
}

-- one more block
pub consistent-added : (rs : List Run) (bs : List (List ℕ)) (free : List ℕ) (room i : ℕ) (r : Run)
    (b : List ℕ) → IsConsistent rs bs (r.first ∷ free) room → IsLowerBound rs i r.start
    → ((j : ℕ) → j < length rs → start_of rs j ≢ r.start)
    → IsConsistent (insert rs i r) (set bs r.first b) free room
consistent-added rs bs free room i r b consistent p none =
    consistent-over (insert rs i r) bs free room r.first b
    (consistent-inserted rs bs free room i r consistent p none)

pub contents-added : (rs : List Run) (bs : List (List ℕ)) (free : List ℕ) (room i : ℕ) (r : Run)
    (b : List ℕ) → IsConsistent rs bs (r.first ∷ free) room
    → ((j : ℕ) → j < length rs → start_of rs j ≢ r.start) → r.kind ≡ DataKind
    → contents_of (insert rs i r) (set bs r.first b) ≡ map.insert (contents_of rs bs) r.start (Data b)
contents-added rs bs free room i r b consistent none kind =
    added (mapping_in bs) (mapping_in (set bs r.first b)) rs i r none (seen-set bs r.first b)
    (taken_unused (length bs) (slots_of rs) free r.first consistent.once)
    ∙ ap (λ k. map.insert (contents_of rs bs) r.start (mapping_in (set bs r.first b) r.first k)) kind
    ∙ ap (map.insert (contents_of rs bs) r.start)
    (data-set bs r.first b (taken_below (length bs) (slots_of rs) free r.first consistent.once))

-- a record of another kind
pub starts-kind : (rs : List Run) (i : ℕ) (r : Run) (kind : Kind) (j : ℕ) → r ≡ get_or rs i r
    → i < length rs → start_of (set rs i (with_kind kind r)) j ≡ start_of rs j
starts-kind [] i r kind j e h = absurd (omega arith)
starts-kind (x ∷ rs) zero r kind zero e h = ap (λ (y : Run). y.start) e
starts-kind (x ∷ rs) zero r kind (suc j) e h = refl
starts-kind (x ∷ rs) (suc i) r kind zero e h = refl
starts-kind (x ∷ rs) (suc i) r kind (suc j) e h = starts-kind rs i r kind j e (omega arith)

slots-kind : (rs : List Run) (i : ℕ) (r : Run) (kind : Kind) → r ≡ get_or rs i r
    → i < length rs → slots_of (set rs i (with_kind kind r)) ≡ slots_of rs
slots-kind [] i r kind e h = absurd (omega arith)
slots-kind (x ∷ rs) zero r kind e h = ap (λ (y : Run). y.first ∷ slots_of rs) e
slots-kind (x ∷ rs) (suc i) r kind e h = ap (λ xs. x.first ∷ xs) (slots-kind rs i r kind e (omega arith))

pub consistent-kind : (rs : List Run) (bs : List (List ℕ)) (free : List ℕ) (room i : ℕ) (r : Run)
    (kind : Kind) → IsConsistent rs bs free room → i < length rs → r ≡ get_or rs i r
    → IsConsistent (set rs i (with_kind kind r)) bs free room
consistent-kind rs bs free room i r kind consistent h e = record {
  sorted = λ j k lt below.
      rw (starts-kind rs i r kind j e h, starts-kind rs i r kind k e h)
      (consistent.sorted j k lt (rw length-set at below));
  once = rw (slots-kind rs i r kind e h) consistent.once;
  count = rw length-set consistent.count;
  pool = consistent.pool;
}

-- the block of its slot is set, too: it is data then, whatever it was
pub contents-changed : (rs : List Run) (bs : List (List ℕ)) (free : List ℕ) (room i : ℕ) (r : Run)
    (b : List ℕ) → IsConsistent rs bs free room → i < length rs → r ≡ get_or rs i r
    → contents_of (set rs i (with_kind DataKind r)) (set bs r.first b)
    ≡ map.insert (contents_of rs bs) r.start (Data b)
contents-changed rs bs free room i r b consistent h e =
    changed (mapping_in bs) (mapping_in (set bs r.first b)) rs i r DataKind consistent.sorted h e
    (seen-set bs r.first b) (used_once (length bs) (slots_of rs) free r.first consistent.once)
    ∙ ap (map.insert (contents_of rs bs) r.start)
    (data-set bs r.first b (have_slots rs bs free room consistent i r h (sym e)))

-- or is anchored, and its block is not seen
pub contents-anchored : (rs : List Run) (bs : List (List ℕ)) (free : List ℕ) (room i : ℕ) (r : Run)
    → IsConsistent rs bs free room → i < length rs → r ≡ get_or rs i r
    → contents_of (set rs i (with_kind AnchoredKind r)) bs
    ≡ map.insert (contents_of rs bs) r.start Anchored
contents-anchored rs bs free room i r consistent h e =
    changed (mapping_in bs) (mapping_in bs) rs i r AnchoredKind consistent.sorted h e
    (λ t kind other. refl) (used_once (length bs) (slots_of rs) free r.first consistent.once)

same-kind : (rs : List Run) (i : ℕ) (r : Run) (kind : Kind) → i < length rs → r ≡ get_or rs i r
    → r.kind ≡ kind → set rs i (with_kind kind r) ≡ rs
same-kind [] i r kind h e is = absurd (omega arith)
same-kind (x ∷ rs) zero r kind h e is =
    ap (λ k. with_kind k r ∷ rs) (sym is) ∙ ap (λ y. y ∷ rs) e
same-kind (x ∷ rs) (suc i) r kind h e is = ap (λ xs. x ∷ xs) (same-kind rs i r kind (omega arith) e is)

-- a block written over
pub contents-over : (rs : List Run) (bs : List (List ℕ)) (free : List ℕ) (room i : ℕ) (r : Run)
    (b : List ℕ) → IsConsistent rs bs free room → i < length rs → r ≡ get_or rs i r
    → r.kind ≡ DataKind
    → contents_of rs (set bs r.first b) ≡ map.insert (contents_of rs bs) r.start (Data b)
contents-over rs bs free room i r b consistent h e kind =
    ap (λ xs. contents_of xs (set bs r.first b)) (sym (same-kind rs i r DataKind h e kind))
    ∙ contents-changed rs bs free room i r b consistent h e

-- no record, and each slot free
pub consistent-empty : (blocks : List (List ℕ)) (free : List ℕ) (room : ℕ) → length blocks ≡ room
    → free ≡ range_with_len 0 room → IsConsistent [] blocks free room
consistent-empty blocks free room all order = record {
  sorted = λ i j lt below. absurd (omega arith);
  once = rw (all, order) (once-range room);
  count = omega (arith, ap length order, length-range_with_len 0 room);
  pool = all;
}
