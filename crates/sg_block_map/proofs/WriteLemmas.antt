-- One address of a range that is written.
use Rattle.std.proofs.Common.{◌≡◌, ◌≢◌, ℕ, ◌+◌, ◌<◌, ◌≤◌, List, [], ◌∷◌, ◌++◌, length, length-set, set, drop}
use Rattle.std.proofs.Common.{arith, refl, sym, ap, ap₂, ◌∙◌, subst, append_assoc, length-append}
use Rattle.std.proofs.Common.{cond, Bool, true, false, Some, None, Option}
use Rattle.std.proofs.Math.Seq.{take-append_seam, drop-append_seam, get_or-append_seam}
use Rattle.std.specs.Cmp.{nat_cmp_total}
use Rattle.std.specs.FinMap as map
use Rattle.std.specs.FinMap.{find, get-from_entries}
use Rattle.std.specs.Ordering.{nat_cmp}
use Rattle.std.specs.Prelude.{insert, ◌==◌, IfSome}
use Rattle.sg_pool.specs.Chains.{IsChain}
use Rattle.sg_store.specs.Disk.{Mapping, max_capacity}
use Rattle.sg_table.specs.Records.{start_of, single, run_at}
use Rattle.sg_pool.specs.MappedRecords.{Seen, entries_by, contents_by, contents_of, mapping_in}
use Rattle.sg_pool.specs.Content.{kind_for, mapping_for}
use Rattle.sg_pool.specs.MappedRecords.{filled_slot, slot_number, slot_numbers}
use Rattle.sg_pool.specs.Source.{block_of}
use Rattle.sg_pool.specs.declared.content.Content.{Content}
use Rattle.sg_pool.specs.declared.content.Content.TheVariants.{Blocks, Anchor}
use Rattle.sg_pool.specs.Slots.{Slots, followed}
use Rattle.sg_table.specs.Records.{slots_of}
use Rattle.sg_table.specs.Occurrences.{occurrences, IsEachOnce}
use Rattle.sg_pool.specs.MappedRecords.{IsConsistent}
use Rattle.sg_table.specs.declared.run.Kind.{Kind}
use Rattle.sg_table.specs.declared.run.Run.{Run}
use Rattle.sg_block_map.specs.Joining.{joined, linked, IsWriting, KeepSlots}
use Rattle.sg_block_map.specs.Runs.{singles_of, expanded, any_from, behind, begins}
use Rattle.sg_pool.specs.Rising.{end_of, AreBetween}
use Rattle.sg_block_map.specs.Runs.{AreChained, AreMaximal}
use Rattle.sg_block_map.specs.Runs.{AreMaximalIn}
use Rattle.sg_block_map.specs.Runs.{chained_contents}
use Rattle.sg_block_map.specs.Splitting.{rest_of}
use Rattle.sg_block_map.specs.Walking.{passed, ahead_of}
use Rattle.sg_pool.proofs.BlockLemmas.{AreSameBut, added, changed, data-set, find-added, seen-set}
use Rattle.sg_pool.proofs.ConsistencyLemmas.{parted as apart-slots, taken_below, consistent-inserted}
use Rattle.sg_pool.proofs.ConsistencyLemmas.{consistent-kind}
use Rattle.sg_store.proofs.DiskLemmas.{eq_other}
use Rattle.sg_pool.proofs.LinkLemmas.{slot_after-none, slot_after-in}
use Rattle.sg_table.proofs.OccurrenceLemmas.{occurrences-append, once-le, below_count, same_slot}
use Rattle.sg_pool.proofs.MappedLemmas.{find-unmapped}
use Rattle.sg_block_map.proofs.BetweenLemmas.{between-expanded, between-singles}
use Rattle.sg_pool.proofs.RisingLemmas.{between-append}
use Rattle.sg_pool.proofs.RisingLemmas.{index-between, none-between}
use Rattle.sg_block_map.proofs.OrderLemmas.{apart-in, apart-loose, begins-high, behind-low}
use Rattle.sg_block_map.proofs.OrderLemmas.{behind-at-most, maximal-from}
use Rattle.sg_block_map.proofs.ExpandedLemmas.{expanded-append, expanded-more, singles-one}
use Rattle.sg_block_map.proofs.ExpandedLemmas.{slots-both, slots-more, last-in}
use Rattle.sg_block_map.proofs.JoinLemmas.{join-expanded, join-writing, link-slot, link-used}
use Rattle.sg_block_map.proofs.SplitLemmas.{expanded-one, rest-chain}
use Rattle.sg_block_map.proofs.WalkLemmas.{passed-by, passed-expanded, not_there, there}

insert-seam : (xs ys : List Run) (r : Run) → insert (xs ++ ys) (length xs) r ≡ xs ++ r ∷ ys
insert-seam xs ys r = ap₂ (λ a b. a ++ r ∷ b) (take-append_seam xs ys) (drop-append_seam xs ys)

one-chain : (next : List ℕ) (slot : ℕ) → IsChain next slot slot 1
one-chain next slot = record { not_empty = omega arith; ends = sym (slot_after-none next slot) }

single-more : (next : List ℕ) (lba slot : ℕ) (kind : Kind) (rest : List Run)
    → expanded next (single lba slot kind ∷ rest) ≡ single lba slot kind ∷ expanded next rest
single-more next lba slot kind rest = expanded-more next (single lba slot kind) rest
    ∙ ap (λ xs. xs ++ expanded next rest) (singles-one next lba slot kind)

-- the table to be, in the part before the address and the part from it on
pub parted : (next : List ℕ) (before : List Run) (done : Run) (rest : List Run)
    → expanded next (before ++ done ∷ rest) ≡
    expanded next (before ++ done ∷ []) ++ expanded next rest
parted next before done rest = ap (expanded next) (sym (append_assoc before (done ∷ []) rest))
    ∙ expanded-append next (before ++ done ∷ []) rest

pub before-between : (next : List ℕ) (before : List Run) (done : Run) (lba : ℕ)
    → AreMaximalIn (any_from 0) (begins done.kind done.start) before → end_of done ≡ lba
    → AreBetween 0 lba (expanded next (before ++ done ∷ []))
before-between next before done lba h e =
    let apart = apart-in before (any_from 0) (begins done.kind done.start) 0 done.start
    (λ kind. omega arith) (omega arith) (λ kind. begins-high done.kind kind done.start) h in
    rw (expanded-append next before (done ∷ []), expanded-one next done, sym e)
    (between-append (expanded next before) (singles_of next done) 0 done.start (end_of done)
    (between-expanded next before 0 done.start apart)
    (between-singles next done.start done.first done.count done.kind))

none_there : {o : Option ℕ} {slot : ℕ} → o ≡ None → o ≡ Some slot → ⊥
none_there e f = cc

keep-insert : (xs ys : List Run) (r : Run) (f : Seen ℕ) (q slot : ℕ)
    → ((j : ℕ) → j < length (xs ++ ys) → start_of (xs ++ ys) j ≢ r.start)
    → map.get (contents_by f (xs ++ ys)) q ≡ Some slot
    → map.get (contents_by f (xs ++ r ∷ ys)) q ≡ Some slot
keep-insert xs ys r f q slot none h =
    let was = sym (get-from_entries nat_cmp_total (entries_by f (xs ++ ys)) q) ∙ h in
    let other : q ≢ r.start = λ same. none_there (find-unmapped f (xs ++ ys) r.start none)
    (ap (λ k. find nat_cmp k (entries_by f (xs ++ ys))) (sym same) ∙ was) in
    get-from_entries nat_cmp_total (entries_by f (xs ++ r ∷ ys)) q
    ∙ ap (λ zs. find nat_cmp q (entries_by f zs)) (sym (insert-seam xs ys r))
    ∙ find-added f (xs ++ ys) (length xs) r q none
    ∙ ap (λ b. cond b (Some (f r.first r.kind))
    (find nat_cmp q (entries_by f (xs ++ ys)))) (eq_other q r.start other) ∙ was

-- a record of another kind has the same slot
set-seam : (xs ys : List Run) (r s : Run) → set (xs ++ r ∷ ys) (length xs) s ≡ xs ++ s ∷ ys
set-seam [] ys r s = refl
set-seam (x ∷ xs) ys r s = ap (λ zs. x ∷ zs) (set-seam xs ys r s)

numbers-kind : (xs ys : List Run) (lba slot : ℕ) (j k : Kind)
    → entries_by slot_number (xs ++ single lba slot j ∷ ys)
    ≡ entries_by slot_number (xs ++ single lba slot k ∷ ys)
numbers-kind [] ys lba slot j k = refl
numbers-kind (x ∷ xs) ys lba slot j k =
    ap (λ es. (x.start, slot_number x.first x.kind) ∷ es) (numbers-kind xs ys lba slot j k)

-- the view of the slot of an address that was put
pub put-length : (content : Content) (index slot : ℕ) (bs : List (List ℕ))
    → length (filled_slot bs slot (mapping_for content index)) ≡ length bs
put-length (Blocks source) index slot bs = length-set bs slot (block_of source.now index)
put-length Anchor index slot bs = refl

pub put-others : (content : Content) (index slot : ℕ) (bs : List (List ℕ))
    → AreSameBut slot (mapping_in bs) (mapping_in (filled_slot bs slot (mapping_for content index)))
put-others (Blocks source) index slot bs = seen-set bs slot (block_of source.now index)
put-others Anchor index slot bs = λ t kind other. refl

pub put-seen : (content : Content) (index slot : ℕ) (bs : List (List ℕ)) (kind : Kind)
    → kind ≡ kind_for content → slot < length bs
    → mapping_in (filled_slot bs slot (mapping_for content index)) slot kind ≡ mapping_for content index
put-seen (Blocks source) index slot bs kind is low =
    ap (mapping_in (filled_slot bs slot (mapping_for (Blocks source) index)) slot) is
    ∙ data-set bs slot (block_of source.now index) low
put-seen Anchor index slot bs kind is low =
    ap (mapping_in (filled_slot bs slot (mapping_for Anchor index)) slot) is

-- only the number of the blocks matters
pub consistent-other : (rs : List Run) (bs bs' : List (List ℕ)) (free : List ℕ) (room : ℕ)
    → length bs' ≡ length bs → IsConsistent rs bs free room → IsConsistent rs bs' free room
consistent-other rs bs bs' free room len h = record {
  sorted = h.sorted;
  once = rw len h.once;
  count = h.count;
  pool = rw len h.pool;
}

-- an address without a slot, which takes a free slot
module _ (before : List Run) (done : Run) (rest : List Run) (slots : Slots) (lba slot : ℕ)
    (free : List ℕ) (bs : List (List ℕ)) (m : Mapping) (h : IsWriting before done rest slots lba)
    (taken : slots.free ≡ slot ∷ free) (len : length bs ≡ length slots.blocks)
    (same : AreSameBut slot (mapping_in slots.blocks) (mapping_in bs))
    (seen : mapping_in bs slot done.kind ≡ m) (none : AreMaximal (lba + 1) (max_capacity + 1) rest) where
  abbrev xs : List Run
  xs = expanded slots.next (before ++ done ∷ [])

  abbrev ys : List Run
  ys = expanded slots.next rest

  abbrev new : Run
  new = single lba slot done.kind

  low : AreBetween 0 lba xs
  low = before-between slots.next before done lba h.maximal_before h.ends

  high : AreBetween (lba + 1) (max_capacity + 1) ys
  high = between-expanded slots.next rest (lba + 1) (max_capacity + 1)
      (apart-loose rest (lba + 1) (lba + 1) (max_capacity + 1) (omega arith) none)

  was : expanded slots.next (before ++ done ∷ rest) ≡ xs ++ ys
  was = parted slots.next before done rest

  is : expanded slots.next (before ++ done ∷ (new ∷ rest)) ≡ xs ++ new ∷ ys
  is = parted slots.next before done (new ∷ rest)
      ∙ ap (λ zs. xs ++ zs) (single-more slots.next lba slot done.kind rest)

  together_was : IsConsistent (xs ++ ys) slots.blocks (slot ∷ free) (length slots.next)
  together_was = rw (was, taken) at h.consistent

  nowhere : (j : ℕ) → j < length (xs ++ ys) → start_of (xs ++ ys) j ≢ lba
  nowhere = none-between xs ys 0 lba (lba + 1) (max_capacity + 1) lba low high (omega arith)
      (omega arith)

  taken_together : IsConsistent (expanded slots.next (before ++ done ∷ (new ∷ rest))) bs free
      (length slots.next)
  taken_together = rw (is, sym (insert-seam xs ys new))
      (consistent-other (insert (xs ++ ys) (length xs) new) slots.blocks bs free (length slots.next)
      len (consistent-inserted (xs ++ ys) slots.blocks free (length slots.next) (length xs)
      new together_was
      (index-between xs ys 0 lba (lba + 1) (max_capacity + 1) low high (omega arith)) nowhere))

  not_used : occurrences slot (slots_of (xs ++ ys)) ≡ 0
  not_used =
      let once = once-le (length slots.blocks) (slots_of (xs ++ ys) ++ slot ∷ free) slot
      together_was.once in
      omega (arith, once, apart-slots slot slot (slots_of (xs ++ ys)) free, same_slot slot)

  taken_contents : contents_of (expanded slots.next (before ++ done ∷ (new ∷ rest))) bs
      ≡ map.insert (chained_contents (before ++ done ∷ rest) slots) lba m
  taken_contents = rw (is, was, sym (insert-seam xs ys new))
      (added (mapping_in slots.blocks) (mapping_in bs) (xs ++ ys) (length xs) new nowhere same not_used
      ∙ ap (map.insert (contents_of (xs ++ ys) slots.blocks) lba) seen)

  abbrev after_taken : Slots
  after_taken = record slots { blocks = bs; free = free }

  abbrev after_new : Slots
  after_new = record slots {
    blocks = bs;
    free = free;
    next = linked slots.next done slot;
  }

  pub new-writing : IsWriting before (joined done new) rest after_new (lba + 1)
  new-writing = join-writing before done new rest after_taken taken_together h.front
      h.ends refl h.maximal_before none h.chained_before (one-chain slots.next slot)
      h.chained_after

  pub new-contents : chained_contents (before ++ joined done new ∷ rest) after_new ≡
      map.insert (chained_contents (before ++ done ∷ rest) slots) lba m
  new-contents = ap (λ zs. contents_of zs bs)
      (join-expanded before done new rest after_taken taken_together h.front h.ends refl)
      ∙ taken_contents

  pub new-keeps : KeepSlots slots.next (before ++ done ∷ rest) (linked slots.next done slot)
      (before ++ joined done new ∷ rest)
  new-keeps q seen e =
      ap (λ zs. map.get (slot_numbers zs) q)
      (join-expanded before done new rest after_taken taken_together h.front h.ends refl ∙ is)
      ∙ keep-insert xs ys new slot_number q seen nowhere
      (ap (λ zs. map.get (slot_numbers zs) q) (sym was) ∙ e)

  pub new-slot : 0 < done.count → done.last < length slots.next
  new-slot = link-slot before done new rest after_taken taken_together h.front

  pub new-used : 0 < done.count → occurrences done.last free ≡ 0
  new-used = link-used before done new rest after_taken taken_together h.front

-- an address that keeps its slot
module _ (before : List Run) (done run : Run) (tail : List Run) (slots : Slots) (lba : ℕ)
    (bs : List (List ℕ)) (m : Mapping) (h : IsWriting before done (run ∷ tail) slots lba)
    (start : run.start ≡ lba) (len : length bs ≡ length slots.blocks)
    (same : AreSameBut run.first (mapping_in slots.blocks) (mapping_in bs))
    (seen : mapping_in bs run.first done.kind ≡ m) where
  abbrev xs' : List Run
  xs' = expanded slots.next (before ++ done ∷ [])

  abbrev rest' : List Run
  rest' = passed slots.next run tail

  abbrev ys' : List Run
  ys' = expanded slots.next rest'

  abbrev old' : Run
  old' = single lba run.first run.kind

  abbrev new' : Run
  new' = single lba run.first done.kind

  some' : 0 < run.count
  some' = h.chained_after.0.not_empty

  was' : expanded slots.next (before ++ done ∷ (run ∷ tail)) ≡ xs' ++ old' ∷ ys'
  was' = parted slots.next before done (run ∷ tail)
      ∙ ap (λ zs. xs' ++ zs) (passed-expanded slots.next run tail some'
      ∙ ap (λ a. single a run.first run.kind ∷ ys') start)

  is' : expanded slots.next (before ++ done ∷ (new' ∷ rest')) ≡ xs' ++ new' ∷ ys'
  is' = parted slots.next before done (new' ∷ rest')
      ∙ ap (λ zs. xs' ++ zs) (single-more slots.next lba run.first done.kind rest')

  consistent_was : IsConsistent (xs' ++ old' ∷ ys') slots.blocks slots.free (length slots.next)
  consistent_was = rw was' at h.consistent

  within' : length xs' < length (xs' ++ old' ∷ ys')
  within' = let len = length-append xs' (old' ∷ ys') in omega arith

  over_together : IsConsistent (expanded slots.next
      (before ++ done ∷ (new' ∷ rest'))) bs slots.free (length slots.next)
  over_together = rw (is', sym (set-seam xs' ys' old' new'))
      (consistent-other (set (xs' ++ old' ∷ ys') (length xs') new') slots.blocks bs slots.free
      (length slots.next) len
      (consistent-kind (xs' ++ old' ∷ ys') slots.blocks slots.free (length slots.next) (length xs')
      old' done.kind consistent_was within' (sym (get_or-append_seam xs' old' ys' old'))))

  once' : occurrences run.first (slots_of (xs' ++ old' ∷ ys')) ≤ 1
  once' =
      let all : List Run = xs' ++ old' ∷ ys' in
      let once = once-le (length slots.blocks) (slots_of all ++ slots.free) run.first
      consistent_was.once in
      omega (arith, once, occurrences-append run.first (slots_of all) slots.free)

  over_contents : contents_of (xs' ++ new' ∷ ys') bs ≡ map.insert
      (chained_contents (before ++ done ∷ (run ∷ tail)) slots) lba m
  over_contents =
      rw (was', sym (set-seam xs' ys' old' new'))
      (changed (mapping_in slots.blocks) (mapping_in bs) (xs' ++ old' ∷ ys') (length xs') old'
      done.kind consistent_was.sorted within' (sym (get_or-append_seam xs' old' ys' old')) same once'
      ∙ ap (map.insert (contents_of (xs' ++ old' ∷ ys') slots.blocks) lba) seen)

  passed_maximal : AreMaximal (lba + 1) (max_capacity + 1) rest'
  passed_maximal = passed-by (AreMaximal (lba + 1) (max_capacity + 1)) slots.next run tail some'
      (λ one. maximal-from tail (behind run) (any_from (max_capacity + 1)) (any_from (lba + 1))
      (λ kind. omega (arith, behind-low run kind)) h.after.2)
      (λ many. (
        omega arith,
        omega arith,
        maximal-from tail (behind run) (any_from (max_capacity + 1))
            (behind (rest_of slots.next run 1))
            (behind-at-most (rest_of slots.next run 1) run refl (omega arith)) h.after.2,
      ))

  passed_chained : AreChained slots.next rest'
  passed_chained = passed-by (AreChained slots.next) slots.next run tail some'
      (λ one. h.chained_after.1) (λ many. (
        rest-chain slots.next run 1 many h.chained_after.0,
        h.chained_after.1,
      ))

  abbrev after_set : Slots
  after_set = record slots { blocks = bs }

  abbrev after_over : Slots
  after_over = record slots {
    blocks = bs;
    next = linked slots.next done run.first;
  }

  pub over-writing : IsWriting before (joined done new') rest' after_over (lba + 1)
  over-writing = join-writing before done new' rest' after_set over_together
      h.front h.ends refl h.maximal_before passed_maximal h.chained_before
      (one-chain slots.next run.first) passed_chained

  over_apart : expanded (linked slots.next done run.first) (before ++ joined done new' ∷ rest') ≡
      xs' ++ new' ∷ ys'
  over_apart = join-expanded before done new' rest' after_set over_together
      h.front h.ends refl ∙ is'

  pub over-contents : chained_contents (before ++ joined done new' ∷ rest')
      after_over ≡ map.insert (chained_contents (before ++ done ∷ (run ∷ tail)) slots) lba m
  over-contents = ap (λ zs. contents_of zs bs) over_apart
      ∙ over_contents

  pub over-keeps : KeepSlots slots.next (before ++ done ∷ (run ∷ tail))
      (linked slots.next done run.first) (before ++ joined done new' ∷ rest')
  over-keeps q seen e = ap (λ zs. map.get (slot_numbers zs) q) over_apart
      ∙ ap (λ (es : List (ℕ × ℕ)). map.get {R = nat_cmp} (map.from_entries {R = nat_cmp} es) q)
      (numbers-kind xs' ys' lba run.first done.kind run.kind)
      ∙ ap (λ zs. map.get (slot_numbers zs) q) (sym was') ∙ e

  pub over-slot : 0 < done.count → done.last < length slots.next
  over-slot = link-slot before done new' rest' after_set over_together h.front

  pub over-used : 0 < done.count → occurrences done.last slots.free ≡ 0
  over-used = link-used before done new' rest' after_set over_together h.front

-- a call that follows links changes nothing beside their count
pub writing-followed : (before : List Run) (done : Run) (rest : List Run) (slots now : Slots)
    (lba n : ℕ) → now ≡ followed slots n → IsWriting before done rest slots lba
    → IsWriting before done rest now lba
writing-followed before done rest slots now lba n e h = rw e (record {
  consistent = h.consistent;
  maximal_before = h.maximal_before;
  ends = h.ends;
  after = h.after;
  chained_before = h.chained_before;
  chained_after = h.chained_after;
  front = h.front;
})

-- the last slot of the run is one of the pool, and not free
pub done-last : (before : List Run) (done : Run) (rest : List Run) (slots : Slots) (lba : ℕ)
    → IsWriting before done rest slots lba → 0 < done.count → (done.last < length slots.next)
    × (occurrences done.last slots.free ≡ 0)
done-last before done rest slots lba h pos =
    let all : List Run = expanded slots.next (before ++ done ∷ rest) in
    let some = last-in slots.next done.first done.last done.count (h.front pos) in
    let once = once-le (length slots.blocks) (slots_of all ++ slots.free) done.last
    h.consistent.once in
    let both = occurrences-append done.last (slots_of all) slots.free in
    let a = slots-both slots.next done.last before (done ∷ rest) in
    let b = slots-more slots.next done.last done rest in
    let low = below_count (length slots.blocks)
    (slots_of all ++ slots.free) done.last h.consistent.once (omega arith) in
    (omega (arith, h.consistent.pool), omega arith)

ap_once : (count : ℕ) (used free free' : List ℕ) → free ≡ free' → IsEachOnce count (used ++ free)
    → IsEachOnce count (used ++ free')
ap_once count used free free' e h = subst (λ xs. IsEachOnce count (used ++ xs)) e h

append_if : (b : Bool) (xs zs ys : List Run) → cond b xs zs ++ ys ≡ cond b (xs ++ ys) (zs ++ ys)
append_if true us zs vs = refl
append_if false us zs vs = refl

pub slot-taken : (before : List Run) (done : Run) (rest : List Run) (slots : Slots) (lba slot : ℕ)
    (free : List ℕ) → IsWriting before done rest slots lba → slots.free ≡ slot ∷ free
    → slot < length slots.blocks
slot-taken before done rest slots lba slot free h taken =
    taken_below (length slots.blocks) (slots_of (expanded slots.next (before ++ done ∷ rest))) free
    slot (ap_once (length slots.blocks) (slots_of (expanded slots.next (before ++ done ∷ rest)))
    slots.free (slot ∷ free) taken h.consistent.once)

pub slot-there : (before : List Run) (done run : Run) (tail : List Run) (slots : Slots) (lba : ℕ)
    → IsWriting before done (run ∷ tail) slots lba → run.first < length slots.blocks
slot-there before done run tail slots lba h =
    let all : List Run = expanded slots.next (before ++ done ∷ (run ∷ tail)) in
    let c = h.chained_after.0 in
    let some = c.not_empty in
    let first = rw (slot_after-none slots.next run.first) at
    (slot_after-in slots.next run.first 0 run.count some) in
    let both = occurrences-append run.first (slots_of all) slots.free in
    let a = slots-both slots.next run.first before (done ∷ (run ∷ tail)) in
    let b = slots-more slots.next run.first done (run ∷ tail) in
    let d = slots-more slots.next run.first run tail in
    below_count (length slots.blocks) (slots_of all ++ slots.free) run.first h.consistent.once
    (omega arith)

pub ahead-below : (before after runs : List Run) (done : Run) (run : Option Run) (at lba : ℕ)
    (slots : Slots) → IsWriting before done (ahead_of runs run at ++ after) slots lba
    → IfSome run (λ (found : Run). found.first < length slots.next)
ahead-below before after runs done None at lba slots w = tt
ahead-below before after runs done (Some found) at lba slots w =
    let low = slot-there before done found (drop at runs ++ after) slots lba w in
    omega (arith, low, w.consistent.pool)

-- no run begins at the address
pub skip-maximal : (runs after : List Run) (run : Option Run) (at lba : ℕ)
    → AreMaximal lba (max_capacity + 1) (ahead_of runs run at ++ after)
    → AreMaximal (lba + 1) (max_capacity + 1) after → run_at run lba ≡ None
    → AreMaximal (lba + 1) (max_capacity + 1) (ahead_of runs run at ++ after)
skip-maximal runs after None at lba h k none = k
skip-maximal runs after (Some run) at lba h k none = let off : run.start ≢ lba =
    λ same. not_there run lba none same in (omega (arith, h.0), h.1, h.2)

pub passed-append : (next : List ℕ) (run : Run) (xs ys : List Run)
    → passed next run xs ++ ys ≡ passed next run (xs ++ ys)
passed-append next run xs ys = append_if (run.count == 1) xs (rest_of next run 1 ∷ xs) ys

-- the same for what is ahead of a walk
module _ (before after runs more : List Run) (done found : Run) (run : Option Run) (at : ℕ)
    (p now : Slots) (lba n : ℕ) (bs : List (List ℕ)) (m : Mapping)
    (h : IsWriting before done (ahead_of runs run at ++ after) p lba)
    (is : run_at run lba ≡ Some found) (e : now ≡ followed p n)
    (next_runs : more ≡ passed p.next found (drop at runs)) (len : length bs ≡ length now.blocks)
    (same : AreSameBut found.first (mapping_in now.blocks) (mapping_in bs))
    (seen : mapping_in bs found.first done.kind ≡ m) where
  abbrev tail_of : List Run
  tail_of = drop at runs ++ after

  here : ahead_of runs run at ++ after ≡ found ∷ tail_of
  here = ap (λ o. ahead_of runs o at ++ after) (there run lba found is).0

  now_writing : IsWriting before done (found ∷ tail_of) now lba
  now_writing = rw here at (writing-followed before done
      (ahead_of runs run at ++ after) p now lba n e h)

  same_next : p.next ≡ now.next
  same_next = sym (ap (λ (s : Slots). s.next) e)

  same_more : more ++ after ≡ passed now.next found tail_of
  same_more = ap (λ zs. zs ++ after) next_runs ∙ passed-append p.next found (drop at runs) after
      ∙ ap (λ ns. passed ns found tail_of) same_next

  abbrev over_slots : Slots
  over_slots = record now {
    blocks = bs;
    next =
        linked now.next done found.first;
  }

  pub walked-writing : IsWriting before (joined done (single lba found.first done.kind))
      (more ++ after) over_slots (lba + 1)
  walked-writing = rw same_more (over-writing before done found tail_of now lba bs m now_writing
      (there run lba found is).1 len same seen)

  pub walked-contents : chained_contents (before ++ joined done (single lba found.first done.kind) ∷
      (more ++ after)) over_slots ≡ map.insert
      (chained_contents (before ++ done ∷ (ahead_of runs run at ++ after)) p) lba m
  walked-contents =
      ap (λ zs. chained_contents (before ++ joined done (single lba found.first done.kind) ∷ zs) over_slots)
      same_more
      ∙ over-contents before done found tail_of now lba bs m now_writing (there run lba found is).1
      len same seen
      ∙ ap₂ (λ zs ns. map.insert (contents_of (expanded ns (before ++ done ∷ zs)) now.blocks) lba m)
      (sym here) (sym same_next)
      ∙ ap (λ zs. map.insert (contents_of (expanded p.next
      (before ++ done ∷ (ahead_of runs run at ++ after))) zs) lba m)
      (ap (λ (s : Slots). s.blocks) e)

  pub walked-keeps : KeepSlots p.next (before ++ done ∷ (ahead_of runs run at ++ after))
      (linked now.next done found.first) (before ++ joined done (single lba found.first done.kind) ∷
      (more ++ after))
  walked-keeps q slot f =
      ap (λ zs. map.get (slot_numbers (expanded (linked now.next done found.first)
      (before ++ joined done (single lba found.first done.kind) ∷ zs))) q) same_more
      ∙ over-keeps before done found tail_of now lba bs m now_writing (there run lba found is).1 len
      same seen q slot
      (ap₂ (λ zs ns. map.get (slot_numbers (expanded ns (before ++ done ∷ zs))) q) (sym here)
      (sym same_next) ∙ f)
