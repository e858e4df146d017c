-- Writing a range, address by address.
use Rattle.std.proofs.Common.{◌≡◌, ◌≢◌, ℕ, ◌+◌, ◌-◌, ◌<◌, ◌≤◌, zero, suc, List, [], ◌∷◌, ◌++◌}
use Rattle.std.proofs.Common.{length}
use Rattle.std.proofs.Common.{arith, refl, sym, ap, ◌∙◌, append_assoc, length-append, length-drop}
use Rattle.std.proofs.Common.{take, drop, set}
use Rattle.std.proofs.Common.{Option, Some, None, get_or}
use Rattle.std.proofs.Math.Seq.{set-append_seam, get_or-append_seam, drop-append_seam}
use Rattle.std.proofs.Math.Seq.{take-append_seam}
use Rattle.std.proofs.lemmas.List.Elements.{All-take, All-drop, All-head, All-tail}
use Rattle.std.specs.List.{All, splice}
use Rattle.std.specs.Prelude.{option_to_list, insert}
use Rattle.std.specs.FinMap as map
use Rattle.sg_store.specs.Disk.{Mapping, max_capacity, remapped, used_among, used_at}
use Rattle.sg_store.specs.Disk.Mapping.{Data, Anchored}
use Rattle.sg_store.proofs.DiskLemmas.{len-remapped, used_among-more, used_among-rest, used_at-past}
use Rattle.sg_table.specs.Draft.{Drafted}
use Rattle.sg_table.specs.Occurrences.{occurrences}
use Rattle.sg_table.specs.Records.{single, slots_of, start_of, with_kind}
use Rattle.sg_table.specs.declared.run.Kind.{Kind}
use Rattle.sg_table.specs.declared.run.Run.{Run}
use Rattle.sg_table.proofs.OccurrenceLemmas.{occurrences-append, occurrences-more, below_count}
use Rattle.sg_table.proofs.OccurrenceLemmas.{same_slot}
use Rattle.sg_table.proofs.SpliceLemmas.{all-splice, front_of}
use Rattle.sg_pool.specs.MappedRecords.{contents_of, filled_slot, kind_of, mapping_in, IsConsistent}
use Rattle.sg_pool.specs.Slots.{UnlinkedSlots}
use Rattle.sg_pool.proofs.MappedLemmas.{none_used, len-contents_by}
use Rattle.sg_pool.proofs.ConsistencyLemmas.{consistent-inserted, contents-inserted, contents-added}
use Rattle.sg_pool.proofs.ConsistencyLemmas.{consistent-kind, consistent-over, contents-changed}
use Rattle.sg_pool.proofs.ConsistencyLemmas.{contents-anchored}
use Rattle.sg_extent_map.specs.Extents.{singles, singles_from, singles_of}
use Rattle.sg_pool.specs.Rising.{end_of, AreApart, AreBetween}
use Rattle.sg_extent_map.specs.Extents.{AreExtents}
use Rattle.sg_extent_map.specs.Extents.{AreMaximal, IsExtent}
use Rattle.sg_extent_map.specs.Gathering.{end_index, AreGathered}
use Rattle.sg_extent_map.specs.Walking.{AreAhead, IsBegun}
use Rattle.sg_extent_map.specs.Writing.{IsWriting, PutsBlock, TakesSlot}
use Rattle.sg_pool.specs.Content.{kind_for, mapping_for}
use Rattle.sg_pool.specs.declared.content.Content.{Content}
use Rattle.sg_pool.specs.declared.content.Content.TheVariants.{Blocks, Anchor}
use Rattle.sg_pool.proofs.RisingLemmas.{apart-right, apart-weaker, between-append}
use Rattle.sg_pool.proofs.RisingLemmas.{index-between, none-between, end_of_all}
use Rattle.sg_extent_map.proofs.BetweenLemmas.{between-singles}
use Rattle.sg_pool.proofs.RisingLemmas.{between-right, between-both}
use Rattle.sg_pool.proofs.RisingLemmas.{between-raised}
use Rattle.sg_extent_map.proofs.SinglesLemmas.{singles-none, singles-more, singles-append}
use Rattle.sg_extent_map.proofs.SinglesLemmas.{singles-last}
use Rattle.sg_extent_map.proofs.SinglesLemmas.{length-singles}
use Rattle.sg_extent_map.proofs.GatheringLemmas.{apart-first}
use Rattle.sg_extent_map.proofs.MaximalLemmas.{FirstIs, LastIs, max-put, first-gathered}
use Rattle.sg_extent_map.proofs.MaximalLemmas.{last-gathered}
use Rattle.sg_extent_map.proofs.MaximalLemmas.{final, first-kept, last-suffix, last-append-to}
use Rattle.sg_extent_map.proofs.MaximalLemmas.{last-below}
use Rattle.std.proofs.Common.{◌⊎◌, inl, inr}
use Rattle.std.proofs.lemmas.Bool.{cases_lt}
use Rattle.std.proofs.Math.ListN.{drop_of_length-le}
use Rattle.sg_extent_map.proofs.SinglesLemmas.{append-none}
use Rattle.sg_extent_map.proofs.WalkLemmas.{IsRecordOf, between-front}

-- ---- The new content of an address

-- the kind of its record
pub kind-of : (content : Content) (index : ℕ) → kind_for content ≡ kind_of (mapping_for content index)
kind-of (Blocks source) index = refl
kind-of Anchor index = refl

-- one more record, or a record of another kind, with its block
consistent-filled : (rs : List Run) (bs : List (List ℕ)) (free : List ℕ) (room s : ℕ) (x : Mapping)
    → IsConsistent rs bs free room → IsConsistent rs (filled_slot bs s x) free room
consistent-filled rs bs free room s (Data b) consistent = consistent-over rs bs free room s b consistent
consistent-filled rs bs free room s Anchored consistent = consistent

filled-inserted : (rs : List Run) (bs : List (List ℕ)) (free : List ℕ) (room i : ℕ) (r : Run)
    (x : Mapping) → IsConsistent rs bs (r.first ∷ free) room
    → ((j : ℕ) → j < length rs → start_of rs j ≢ r.start) → r.kind ≡ kind_of x
    → contents_of (insert rs i r) (filled_slot bs r.first x) ≡ map.insert (contents_of rs bs) r.start x
filled-inserted rs bs free room i r (Data b) consistent none kind =
    contents-added rs bs free room i r b consistent none kind
filled-inserted rs bs free room i r Anchored consistent none kind =
    contents-inserted rs bs free room i r consistent none
    ∙ ap (λ k. map.insert (contents_of rs bs) r.start (mapping_in bs r.first k)) kind

filled-changed : (rs : List Run) (bs : List (List ℕ)) (free : List ℕ) (room i : ℕ) (r : Run)
    (x : Mapping) → IsConsistent rs bs free room → i < length rs → r ≡ get_or rs i r
    → contents_of (set rs i (with_kind (kind_of x) r)) (filled_slot bs r.first x)
    ≡ map.insert (contents_of rs bs) r.start x
filled-changed rs bs free room i r (Data b) consistent h e =
    contents-changed rs bs free room i r b consistent h e
filled-changed rs bs free room i r Anchored consistent h e =
    contents-anchored rs bs free room i r consistent h e

insert-at : (xs ys : List Run) (r : Run) → insert (xs ++ ys) (length xs) r ≡ xs ++ r ∷ ys
insert-at [] [] r = refl
insert-at [] (y ∷ ys) r = refl
insert-at (x ∷ xs) ys r = ap (λ zs. x ∷ zs) (insert-at xs ys r)

-- ---- The next address is put

-- What is written of a range, with one more address.
pub record IsPut (before rest rest' : List Run) (slots slots' : UnlinkedSlots) (room lba slot : ℕ)
    (x : Mapping) :
    Type 0 where
  pub writing : IsWriting (before ++ single lba slot (kind_of x) ∷ []) rest' slots' room (lba + 1)
  pub contents : contents_of ((before ++ single lba slot (kind_of x) ∷ []) ++ rest') slots'.blocks
      ≡ map.insert (contents_of (before ++ rest) slots.blocks) lba x

longer : (before rest : List Run) (r : Run) → (before ++ r ∷ []) ++ rest ≡ before ++ r ∷ rest
longer before rest r = append_assoc before (r ∷ []) rest

module _ (before rest : List Run) (slots slots' : UnlinkedSlots) (room lba slot : ℕ) (x : Mapping)
    (low : AreBetween 0 lba before) (high : AreBetween (lba + 1) max_capacity rest)
    (blocks : slots'.blocks ≡ filled_slot slots.blocks slot x) where
  abbrev new : Run
  new = single lba slot (kind_of x)

  low' : AreBetween 0 (lba + 1) (before ++ new ∷ [])
  low' = between-append before (new ∷ []) 0 lba (lba + 1) low (omega arith, omega arith)

  added : IsConsistent (before ++ rest) slots.blocks slots.free room → slots.free ≡ slot ∷ slots'.free
      → IsPut before rest rest slots slots' room lba slot x
  added consistent taken =
      let all : IsConsistent (before ++ rest) slots.blocks (slot ∷ slots'.free) room =
      rw taken at consistent in
      let index = index-between before rest 0 lba (lba + 1) max_capacity low high (omega arith) in
      let none = none-between before rest 0 lba (lba + 1) max_capacity lba low high (omega arith)
      (omega arith) in
      let here = insert-at before rest new ∙ sym (longer before rest new) in
      record {
        writing = record {
          consistent = rw (blocks, ← here)
              (consistent-filled (insert (before ++ rest) (length before) new) slots.blocks slots'.free
              room slot x
              (consistent-inserted (before ++ rest) slots.blocks slots'.free room (length before) new
              all index none));
          low = low';
          high = high;
        };
        contents = rw (blocks, ← here)
            (filled-inserted (before ++ rest) slots.blocks slots'.free room (length before) new x all
            none refl);
      }

  changed : (kind : Kind)
      → IsConsistent (before ++ single lba slot kind ∷ rest) slots.blocks slots.free room
      → slots'.free ≡ slots.free
      → IsPut before (single lba slot kind ∷ rest) rest slots slots' room lba slot x
  changed kind consistent free =
      let old : Run = single lba slot kind in
      let all : List Run = before ++ old ∷ rest in
      let len = length-append before (old ∷ rest) in
      let lt : length before < length all = omega arith in
      let read : old ≡ get_or all (length before) old = sym (get_or-append_seam before old rest old) in
      let here = set-append_seam before old rest new ∙ sym (longer before rest new) in
      record {
        writing = record {
          consistent = rw (blocks, free, ← here)
              (consistent-filled (set all (length before) new) slots.blocks slots.free room slot x
              (consistent-kind all slots.blocks slots.free room (length before) old (kind_of x)
              consistent lt read));
          low = low';
          high = high;
        };
        contents = rw (blocks, ← here)
            (filled-changed all slots.blocks slots.free room (length before) old x consistent lt read);
      }

pub put-step : (before rest : List Run) (found : Option Run) (slots slots' : UnlinkedSlots)
    (room lba slot : ℕ) (x : Mapping)
    → IsWriting before (option_to_list found ++ rest) slots room lba
    → AreBetween (lba + 1) max_capacity rest → IsRecordOf lba room found
    → PutsBlock found slots slots' x slot
    → IsPut before (option_to_list found ++ rest) rest slots slots' room lba slot x
put-step before rest None slots slots' room lba slot x w high is put =
    let blocks = ap (λ (s : UnlinkedSlots). s.blocks) put.pool in
    added before rest slots slots' room lba slot x w.low high blocks w.consistent put.takes
put-step before rest (Some run) slots slots' room lba slot x w high is put =
    let blocks = ap (λ (s : UnlinkedSlots). s.blocks) put.pool in
    let record_is : run ≡ single lba slot run.kind =
    is.0 ∙ ap (λ s. single lba s run.kind) (sym put.takes.0) in
    rw record_is (changed before rest slots slots' room lba slot x w.low high blocks run.kind
    (rw record_is at w.consistent) put.takes.1)

-- ---- The extents near the range

pub all-middle : (P : Run → Type 0) (xs ys zs : List Run) → All P (xs ++ (ys ++ zs)) → All P ys
all-middle P xs ys zs h =
    let some = rw (drop-append_seam xs (ys ++ zs)) at (All-drop P (length xs) (xs ++ (ys ++ zs)) h) in
    rw (take-append_seam ys zs) at (All-take P (length ys) (ys ++ zs) some)

pub gathered-ahead : (rs : List Run) (gathered : Drafted) (slots : UnlinkedSlots) (room low high : ℕ)
    → AreExtents rs slots room → AreGathered rs gathered low high → AreAhead room 0 gathered.records
gathered-ahead rs gathered slots room low high h g =
    let xs : List Run = take gathered.from rs in
    let ys : List Run = drop (end_index gathered) rs in
    let apart = rw (← g.same) at h.apart in
    let some = apart-first gathered.records ys (end_of_all 0 xs) max_capacity
    (apart-right xs (gathered.records ++ ys) 0 max_capacity apart) in
    record {
      apart = apart-weaker gathered.records (end_of_all 0 xs) max_capacity 0 max_capacity (omega arith)
          (omega arith) some;
      extents = all-middle (IsExtent room) xs gathered.records ys (rw (← g.same) at h.extents);
    }

pub gathered-rest : (rs : List Run) (gathered : Drafted) (slots : UnlinkedSlots) (room low high : ℕ)
    → AreExtents rs slots room → AreGathered rs gathered low high
    → AreAhead room low (drop 1 gathered.records)
gathered-rest rs gathered slots room low high h g = record {
  apart = g.rest;
  extents = All-drop (IsExtent room) 1 gathered.records
      (gathered-ahead rs gathered slots room low high h g).extents;
}

-- ---- Free slots

pub free-below : (rs : List Run) (bs : List (List ℕ)) (free : List ℕ) (room slot : ℕ)
    → IsConsistent rs bs free room → 0 < occurrences slot free → slot < length bs
free-below rs bs free room slot h some =
    let all = occurrences-append slot (slots_of rs) free in
    below_count (length bs) (slots_of rs ++ free) slot h.once (omega arith)

-- there is a free slot for an address of the range that has none
pub free-there : (rs rs' : List Run) (bs bs' : List (List ℕ)) (free free' : List ℕ)
    (room lba i count : ℕ) (f : ℕ → Mapping) → IsConsistent rs bs free room
    → IsConsistent rs' bs' free' room → contents_of rs' bs' ≡ remapped (contents_of rs bs) lba i f
    → used_at (contents_of rs' bs') (lba + i) ≡ 0 → i < count
    → count ≤ length free + used_among (contents_of rs bs) lba count → 0 < length free'
free-there rs rs' bs bs' free free' room lba i count f h h' same none lt enough =
    let m = contents_of rs bs in
    let all = len-contents_by (mapping_in bs) rs h.sorted in
    let all' = len-contents_by (mapping_in bs') rs' h'.sorted in
    let len = len-remapped m lba i f in
    let now = ap map.len same in
    let here = ap (λ c. used_at c (lba + i)) same ∙ used_at-past m lba i f in
    let more = used_among-more m lba i in
    let rest = used_among-rest m lba (i + 1) (count - (i + 1)) in
    let e : i + 1 + (count - (i + 1)) ≡ count = omega arith in
    let within = rw e at rest in
    omega (arith, h.count, h'.count)

-- no record has the address
pub none-there : (before rest : List Run) (bs : List (List ℕ)) (lba : ℕ) → AreBetween 0 lba before
    → AreBetween (lba + 1) max_capacity rest → used_at (contents_of (before ++ rest) bs) lba ≡ 0
none-there before rest bs lba low high =
    none_used (mapping_in bs) (before ++ rest) lba
    (none-between before rest 0 lba (lba + 1) max_capacity lba low high (omega arith) (omega arith))

-- ---- The table to be

-- extents whose single addresses rise
past-from : (start first n : ℕ) (kind : Kind) (ys : List Run) (a b : ℕ)
    → AreBetween a b (singles_from start first (suc n) kind ++ ys)
    → (a ≤ start) × AreBetween (start + suc n) b ys
unfolding singles_from
past-from start first zero kind ys a b h = (h.0, h.1)
past-from start first (suc n) kind ys a b h =
    let rest = past-from (start + 1) (first + 1) n kind ys (start + 1) b h.1 in
    let e : start + 1 + suc n ≡ start + suc (suc n) = omega arith in
    (h.0, rw e at rest.1)

apart-more : (run : Run) (n : ℕ) (ys : List Run) (a b : ℕ) → run.count ≡ suc n
    → AreBetween a b (singles_of run ++ ys) → (a ≤ run.start) × AreBetween (end_of run) b ys
apart-more run n ys a b e h =
    let past = past-from run.start run.first n run.kind ys a b
    (rw (ap (λ k. singles_from run.start run.first k run.kind) e) at h) in
    (past.0, rw (sym e) at past.1)

pub apart-by : (room : ℕ) (rs : List Run) (a b : ℕ) → All (IsExtent room) rs
    → AreBetween a b (singles rs) → AreApart a b rs
apart-by room [] a b each h = rw singles-none at h
apart-by room (x ∷ rs) a b each h =
    let one : IsExtent room x = All-head (IsExtent room) x rs each in
    let some = one.not_empty in
    let e : x.count ≡ suc (x.count - 1) = omega arith in
    let past = apart-more x (x.count - 1) (singles rs) a b e (rw (singles-more x rs) at h) in
    (past.0, some, apart-by room rs (end_of x) b (All-tail (IsExtent room) x rs each) past.1)

-- the single addresses of the table, in three parts
pub singles-parts : (xs ys zs : List Run)
    → singles (xs ++ (ys ++ zs)) ≡ singles xs ++ (singles ys ++ singles zs)
singles-parts xs ys zs = singles-append xs (ys ++ zs)
    ∙ ap (λ ws. singles xs ++ ws) (singles-append ys zs)

four-parts : (F D A H : List Run) → F ++ ((D ++ A) ++ H) ≡ (F ++ D) ++ (A ++ H)
four-parts F D A H = ap (λ xs. F ++ xs) (append_assoc D A H) ∙ sym (append_assoc F D (A ++ H))

-- at first no address is written
module _ (rs : List Run) (gathered : Drafted) (slots : UnlinkedSlots) (room lba high : ℕ) (front : Run)
    (ahead : List Run) (h : AreExtents rs slots room) (g : AreGathered rs gathered lba high)
    (t : IsBegun room lba gathered.records front ahead) (le : lba ≤ high) where
  abbrev xs : List Run
  xs = take gathered.from rs

  abbrev ys : List Run
  ys = drop (end_index gathered) rs

  abbrev before : List Run
  before = singles xs ++ singles (front ∷ [])

  abbrev rest : List Run
  rest = singles ahead ++ singles ys

  one : singles (front ∷ []) ≡ singles_of front
  one = singles-last [] front ∙ ap (λ zs. zs ++ singles_of front) singles-none

  pub begun-parts : before ++ rest ≡ singles rs
  begun-parts =
      sym (ap singles (sym g.same) ∙ singles-parts xs gathered.records ys
      ∙ ap (λ ws. singles xs ++ (ws ++ singles ys)) t.parts
      ∙ four-parts (singles xs) (singles_of front) (singles ahead) (singles ys)
      ∙ ap (λ ws. (singles xs ++ ws) ++ rest) (sym one))

  pub begun-writing : IsWriting before rest slots room lba
  begun-writing =
      let whole = between-singles rs 0 max_capacity h.apart in
      let all : AreBetween 0 max_capacity (before ++ rest) = rw begun-parts whole in
      record {
        consistent = rw begun-parts h.consistent;
        low = between-both (singles xs) (singles (front ∷ [])) rest 0 max_capacity lba 0 0 all
            (between-singles xs 0 lba g.before)
            (rw one (between-front front lba t.before)) (omega arith);
        high = between-raised (singles ahead) (singles ys) 0 max_capacity lba high
            (between-right before rest 0 max_capacity all)
            (between-singles ahead lba max_capacity t.still_ahead.apart)
            (between-singles ys high max_capacity g.after) le;
      }

-- the slot of an address is one of the pool's
pub slot-low : (found : Option Run) (old new : UnlinkedSlots) (rs : List Run) (room lba slot : ℕ)
    → IsConsistent rs old.blocks old.free room → IsRecordOf lba room found
    → TakesSlot found old new slot → slot < room
slot-low None old new rs room lba slot h is takes =
    let some = ap (occurrences slot) takes ∙ occurrences-more slot slot new.free in
    let one = same_slot slot in
    let low = free-below rs old.blocks old.free room slot h (omega arith) in
    omega (arith, h.pool)
slot-low (Some run) old new rs room lba slot h is takes = omega (arith, is.1, takes.0)

-- at the end the whole range is written
pub writing-extents : (rs before rest : List Run) (slots : UnlinkedSlots) (room lba : ℕ)
    → IsWriting before rest slots room lba → singles rs ≡ before ++ rest → All (IsExtent room) rs
    → AreMaximal rs → AreExtents rs slots room
writing-extents rs before rest slots room lba w e each maximal =
    let all = between-append before rest 0 lba max_capacity w.low w.high in
    record {
      apart = apart-by room rs 0 max_capacity each (rw e all);
      maximal = maximal;
      extents = each;
      consistent = rw e w.consistent;
    }

pub drafted-parts : (rs ds : List Run) (D A : List Run) (from to : ℕ) → singles ds ≡ D ++ A
    → singles (splice rs from to ds) ≡ (singles (take from rs) ++ D) ++ (A ++ singles (drop to rs))
drafted-parts rs ds D A from to e =
    singles-parts (take from rs) ds (drop to rs)
    ∙ ap (λ xs. singles (take from rs) ++ (xs ++ singles (drop to rs))) e
    ∙ four-parts (singles (take from rs)) D A (singles (drop to rs))

-- the new extents have room in the table
pub splice-room : (rs ds : List Run) (gathered : Drafted) (bs : List (List ℕ)) (free : List ℕ)
    (room : ℕ) → end_index gathered ≤ length rs
    → All (IsExtent room) (splice rs gathered.from (end_index gathered) ds)
    → IsConsistent (singles (splice rs gathered.from (end_index gathered) ds)) bs free room
    → length rs + length ds ≤ room + length gathered.records
splice-room rs ds gathered bs free room within each h =
    let few = length-singles room (splice rs gathered.from (end_index gathered) ds) each in
    let a = length-append (take gathered.from rs) (ds ++ drop (end_index gathered) rs) in
    let b = length-append ds (drop (end_index gathered) rs) in
    let d = length-drop (end_index gathered) rs in
    let e = front_of rs gathered.from (omega arith) in
    omega (arith, h.count)

-- the extents are put in the place of the gathered ones
pub finished : (rs ds D A : List Run) (slots : UnlinkedSlots) (from to room lba : ℕ) → singles ds ≡ D ++ A
    → IsWriting (singles (take from rs) ++ D) (A ++ singles (drop to rs)) slots room lba
    → All (IsExtent room) rs → All (IsExtent room) ds → AreMaximal (splice rs from to ds)
    → AreExtents (splice rs from to ds) slots room
finished rs ds D A slots from to room lba e w each others maximal =
    writing-extents (splice rs from to ds) (singles (take from rs) ++ D) (A ++ singles (drop to rs))
    slots room lba w (drafted-parts rs ds D A from to e) (all-splice (IsExtent room) rs ds from to each
    others) maximal

-- ---- The new extents are maximal

-- the gathered extents have a first and a last address
pub begins-there : (rs : List Run) (gathered : Drafted) (room low high : ℕ)
    → AreGathered rs gathered low high → All (IsExtent room) gathered.records
    → (take gathered.from rs ≡ []) ⊎ ((r : Run) × FirstIs (singles gathered.records) r × (r.start < low))
begins-there rs gathered room low high g each = elim (cases_lt 0 gathered.from) [
  | inl later ↦
      let b = g.begins later in
      let run : Run = b.0 in
      inr (
        single run.start run.first run.kind,
        rw b.2 (first-gathered room run b.1 (rw b.2 at each)),
        b.3,
      )
  | inr none ↦ let e : gathered.from ≡ 0 = omega arith in inl (ap (λ n. take n rs) e)
]

pub ends-there : (rs : List Run) (gathered : Drafted) (room low high : ℕ)
    → AreGathered rs gathered low high → All (IsExtent room) gathered.records
    → (drop (end_index gathered) rs ≡ [])
    ⊎ ((r : Run) × LastIs (singles gathered.records) r × (high ≤ r.start))
ends-there rs gathered room low high g each = elim (cases_lt (end_index gathered) (length rs)) [
  | inl later ↦
      let b = g.ends later in
      let run : Run = b.0 in
      let one : IsExtent room run =
      All-head (IsExtent room) run [] (All-last room b.1 run (rw b.2 at each)) in
      inr (final run, rw b.2 (last-gathered run b.1 one.not_empty), omega (arith, b.3))
  | inr none ↦ inl (drop_of_length-le rs none)
]
  where
    All-last : (room : ℕ) (more : List Run) (run : Run) → All (IsExtent room) (more ++ run ∷ [])
        → All (IsExtent room) (run ∷ [])
    All-last room more run h = rw (drop-append_seam more (run ∷ [])) at
        (All-drop (IsExtent room) (length more) (more ++ run ∷ []) h)

pub put-maximal : (rs ds D A passed more ahead : List Run) (gathered : Drafted) (slots : UnlinkedSlots)
    (room lba high : ℕ) (front : Run) → AreExtents rs slots room → AreGathered rs gathered lba high
    → All (IsExtent room) ds → AreMaximal ds → singles ds ≡ D ++ A
    → IsBegun room lba gathered.records front ahead → D ≡ singles_of front ++ more
    → singles gathered.records ≡ passed ++ A → AreBetween 0 high passed
    → AreMaximal (splice rs gathered.from (end_index gathered) ds)
put-maximal rs ds D A passed more ahead gathered slots room lba high front h g each k e t begun parts low =
    let xs : List Run = take gathered.from rs in
    let ys : List Run = drop (end_index gathered) rs in
    let gs : List Run = gathered.records in
    let near = (gathered-ahead rs gathered slots room lba high h g).extents in
    max-put room xs gs ys ds (All-take (IsExtent room) gathered.from rs h.extents) near each
    (rw (← g.same) at h.maximal) k
    (elim (begins-there rs gathered room lba high g near) [
      | inl none ↦ inl none
      | inr b ↦ inr (
        b.0,
        first-kept (singles gs) (singles_of front) (singles ahead) D more A
            (singles ds) b.0 lba max_capacity t.parts b.1 b.2
            (between-singles ahead lba max_capacity t.still_ahead.apart) begun e,
        b.1,
      )
    ])
    (elim (ends-there rs gathered room lba high g near) [
      | inl none ↦ inl none
      | inr b ↦ inr (b.0, suffix b, b.1)
    ])
  where
    suffix : (b : (r : Run) × LastIs (singles gathered.records) r × (high ≤ r.start))
        → LastIs (singles ds) b.0
    suffix b = elim (last-suffix passed A b.0 (rw parts at b.1)) [
      | inl none ↦
          let whole = parts ∙ ap (λ zs. passed ++ zs) none ∙ append-none passed in
          let below = last-below passed b.0 0 high (rw whole at b.1) low in
          absurd (omega (arith, b.2, below))
      | inr last ↦ rw e (last-append-to D A b.0 last)
    ]
