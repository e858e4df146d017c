-- Unmapping a range, extent by extent.
use Rattle.std.proofs.Common.{◌≡◌, ℕ, ◌+◌, ◌-◌, ◌<◌, ◌≤◌, List, [], ◌∷◌, ◌++◌, length}
use Rattle.std.proofs.Common.{arith, refl, sym, ap, ap₂, ◌∙◌, append_assoc, length-append, take}
use Rattle.std.proofs.Common.{drop, get_or}
use Rattle.std.proofs.lemmas.List.{take_more}
use Rattle.std.proofs.Common.{cond, inl, inr, refl, zero, suc}
use Rattle.std.proofs.lemmas.Bool.{cases_lt}
use Rattle.sg_store.specs.Disk.{lies_in, max_capacity}
use Rattle.sg_store.proofs.DiskLemmas.{inside, below, above}
use Rattle.std.proofs.lemmas.List.Elements.{All-take}
use Rattle.sg_extent_map.proofs.MaximalLemmas.{FirstIs, LastIs, max-put}
use Rattle.sg_extent_map.proofs.WriteLemmas.{begins-there, ends-there, gathered-ahead}
use Rattle.sg_table.specs.Draft.{Drafted}
use Rattle.std.proofs.lemmas.List.{map-id}
use Rattle.std.proofs.lemmas.List.FromFn.{map-range_with_len_more}
use Rattle.sg_table.specs.Occurrences.{occurrences, one_if_equal}
use Rattle.sg_table.specs.Records.{slots_of}
use Rattle.sg_table.specs.declared.run.Kind.{Kind}
use Rattle.sg_table.specs.declared.run.Run.{Run}
use Rattle.sg_table.proofs.OccurrenceLemmas.{occurrences-append, occurrences-one, once-le}
use Rattle.sg_pool.specs.MappedRecords.{outside_records, IsConsistent}
use Rattle.sg_pool.specs.Slots.{UnlinkedSlots}
use Rattle.std.specs.List.{All, range_with_len, splice}
use Rattle.sg_table.proofs.SpliceLemmas.{all-splice}
use Rattle.sg_extent_map.specs.Drafting.{drafted}
use Rattle.sg_extent_map.specs.Gathering.{end_index, AreGathered}
use Rattle.sg_extent_map.specs.Extents.{singles, singles_from, singles_of, part_of}
use Rattle.sg_pool.specs.Rising.{AreBetween}
use Rattle.sg_extent_map.specs.Extents.{AreExtents, AreMaximal, IsExtent}
use Rattle.sg_extent_map.specs.Writing.{GivesSlots, HasOwnSlots, IsCut}
use Rattle.sg_extent_map.proofs.BetweenLemmas.{between-from, between-singles}
use Rattle.sg_pool.proofs.RisingLemmas.{between-right}
use Rattle.sg_pool.proofs.RisingLemmas.{sorted-between}
use Rattle.sg_pool.proofs.RemainingLemmas.{outside-append, outside-before, outside-behind}
use Rattle.sg_pool.proofs.RemainingLemmas.{outside-inside}
use Rattle.sg_extent_map.proofs.DraftLemmas.{drop-run, none-of}
use Rattle.sg_extent_map.proofs.SinglesLemmas.{singles-last, singles-more, singles-none}
use Rattle.sg_extent_map.proofs.WriteLemmas.{apart-by, singles-parts}
use Rattle.sg_extent_map.proofs.SinglesLemmas.{lies-more, from-none, length-from, occurrences-from}
use Rattle.sg_extent_map.proofs.SinglesLemmas.{slots-append}
use Rattle.sg_extent_map.proofs.WalkLemmas.{part-split, part-two}

-- ---- The table without some addresses

pub between-less : (xs ms ys : List Run) (a b : ℕ) → AreBetween a b (xs ++ (ms ++ ys))
    → AreBetween a b (xs ++ ys)
between-less [] ms ys a b h = between-right ms ys a b h
between-less (x ∷ xs) ms ys a b h = (h.0, between-less xs ms ys (x.start + 1) b h.1)

slots-three : (t : ℕ) (xs ms ys : List Run) (free : List ℕ)
    → occurrences t (slots_of (xs ++ (ms ++ ys)) ++ free)
    ≡ occurrences t (slots_of xs) + occurrences t (slots_of ms) + occurrences t (slots_of ys)
    + occurrences t free
slots-three t xs ms ys free =
    let a = occurrences-append t (slots_of (xs ++ (ms ++ ys))) free in
    let b = ap (occurrences t) (slots-append xs (ms ++ ys))
    ∙ occurrences-append t (slots_of xs) (slots_of (ms ++ ys)) in
    let d = ap (occurrences t) (slots-append ms ys)
    ∙ occurrences-append t (slots_of ms) (slots_of ys) in
    omega arith

slots-two : (t : ℕ) (xs ys : List Run) (free : List ℕ)
    → occurrences t (slots_of (xs ++ ys) ++ free)
    ≡ occurrences t (slots_of xs) + occurrences t (slots_of ys) + occurrences t free
slots-two t xs ys free =
    let a = occurrences-append t (slots_of (xs ++ ys)) free in
    let b = ap (occurrences t) (slots-append xs ys)
    ∙ occurrences-append t (slots_of xs) (slots_of ys) in
    omega arith

-- slots that were given back
pub occurrences-range : (t first n : ℕ)
    → occurrences t (range_with_len first n) ≡ cond (lies_in first n t) 1 0
unfolding occurrences
occurrences-range t first zero = elim (cases_lt t first) [
  | inl lt ↦ rw (below first 0 t lt) refl
  | inr ge ↦ rw (above first 0 t (omega arith)) refl
]
occurrences-range t first (suc n) =
    omega (arith, occurrences-range t (first + 1) n, lies-more t first n)

-- one slot more in a row
pub range-one-more : (t first n : ℕ) → occurrences t (range_with_len first (n + 1))
    ≡ occurrences t (range_with_len first n) + one_if_equal t (first + n)
range-one-more t first n =
    let xs = range_with_len first n in
    let more = sym (map-id (range_with_len first (n + 1)))
    ∙ map-range_with_len_more (λ x. x) first n (first + n) refl
    ∙ ap (λ xs. xs ++ (first + n) ∷ []) (map-id xs) in
    ap (occurrences t) more ∙ occurrences-append t xs ((first + n) ∷ [])
    ∙ ap (λ k. occurrences t xs + k) (occurrences-one t (first + n))

pub consistent-less : (xs ys : List Run) (start first n : ℕ) (kind : Kind) (old new : UnlinkedSlots)
    (room : ℕ)
    → IsConsistent (xs ++ (singles_from start first n kind ++ ys)) old.blocks old.free room
    → AreBetween 0 max_capacity (xs ++ (singles_from start first n kind ++ ys))
    → GivesSlots first n old new → IsConsistent (xs ++ ys) new.blocks new.free room
consistent-less xs ys start first n kind old new room h between gives =
    let ms : List Run = singles_from start first n kind in
    let blocks = ap (λ (s : UnlinkedSlots). s.blocks) gives.pool in
    let all = length-append xs (ms ++ ys) in
    let some = length-append ms ys in
    let left = length-append xs ys in
    let gone = length-from start first n kind in
    rw blocks (record {
      sorted = sorted-between (xs ++ ys) 0 max_capacity (between-less xs ms ys 0 max_capacity between);
      once = record {
        each = λ t.
            let a = slots-three t xs ms ys old.free in
            let b = slots-two t xs ys new.free in
            let d = gives.each t in
            let r = occurrences-range t first n in
            let e = occurrences-from t start first n kind in
            let same : occurrences t (slots_of (xs ++ ys) ++ new.free)
            ≡ occurrences t (slots_of (xs ++ (ms ++ ys)) ++ old.free) = omega arith in
            same ∙ h.once.each t;
      };
      count = omega (arith, h.count, gives.count_is);
      pool = h.pool;
    })

-- ---- The slots of an extent of the table

pub own-slots : (xs ys : List Run) (run : Run) (bs : List (List ℕ)) (free : List ℕ) (room : ℕ)
    → IsConsistent (xs ++ (singles_of run ++ ys)) bs free room → HasOwnSlots free run
own-slots xs ys run bs free room h slot low high =
    let all = slots-three slot xs (singles_of run) ys free in
    let most = once-le (length bs) (slots_of (xs ++ (singles_of run ++ ys)) ++ free) slot h.once in
    let one = occurrences-from slot run.start run.first run.count run.kind
    ∙ ap (λ b. cond b 1 0) (inside run.first run.count slot low high) in
    omega arith

pub own-room : (xs ys : List Run) (run : Run) (bs : List (List ℕ)) (free : List ℕ) (room : ℕ)
    → IsConsistent (xs ++ (singles_of run ++ ys)) bs free room
    → (run.count + length free ≤ room) × (length xs + run.count ≤ room)
own-room xs ys run bs free room h =
    let all = length-append xs (singles_of run ++ ys) in
    let some = length-append (singles_of run) ys in
    let one = length-from run.start run.first run.count run.kind in
    (omega (arith, h.count), omega (arith, h.count))

-- ---- An extent is cut

-- its addresses before the range, in it and after it
part-before : (run : Run) (n low k : ℕ) → (0 < n → run.start + n ≤ low)
    → outside_records (singles_of (part_of run 0 n)) low k ≡ singles_of (part_of run 0 n)
part-before run n low k front = elim (cases_lt 0 n) [
  | inl some ↦
      let le = front some in
      outside-before (singles_of (part_of run 0 n)) (run.start + 0) (run.start + 0 + n) low k
      (omega arith) (between-from (run.start + 0) (run.first + 0) n run.kind)
  | inr none ↦
      let e : n ≡ 0 = omega arith in
      let nil = ap (λ m. singles_of (part_of run 0 m)) e
      ∙ from-none (run.start + 0) (run.first + 0) run.kind in
      rw nil refl
]

part-behind : (run : Run) (skip n low k : ℕ) → (0 < n → low + k ≤ run.start + skip)
    → outside_records (singles_of (part_of run skip n)) low k ≡ singles_of (part_of run skip n)
part-behind run skip n low k back = elim (cases_lt 0 n) [
  | inl some ↦
      let le = back some in
      outside-behind (singles_of (part_of run skip n)) (run.start + skip) (run.start + skip + n) low k
      (omega arith) (between-from (run.start + skip) (run.first + skip) n run.kind)
  | inr none ↦
      let e : n ≡ 0 = omega arith in
      let nil = ap (λ m. singles_of (part_of run skip m)) e
      ∙ from-none (run.start + skip) (run.first + skip) run.kind in
      rw nil refl
]

part-inside : (run : Run) (skip n low k : ℕ)
    → (0 < n → (low ≤ run.start + skip) × (run.start + (skip + n) ≤ low + k))
    → outside_records (singles_of (part_of run skip n)) low k ≡ []
part-inside run skip n low k gone = elim (cases_lt 0 n) [
  | inl some ↦
      let le = gone some in
      outside-inside (singles_of (part_of run skip n)) (run.start + skip) (run.start + skip + n) low k
      (omega arith) (omega arith) (between-from (run.start + skip) (run.first + skip) n run.kind)
  | inr none ↦
      let e : n ≡ 0 = omega arith in
      let nil = ap (λ m. singles_of (part_of run skip m)) e
      ∙ from-none (run.start + skip) (run.first + skip) run.kind in
      rw nil refl
]

pub part-three : (run : Run) (n m : ℕ) → n + m ≤ run.count
    → singles_of run ≡ singles_of (part_of run 0 n) ++ (singles_of (part_of run n m)
    ++ singles_of (part_of run (n + m) (run.count - (n + m))))
part-three run n m le =
    let e : m + (run.count - (n + m)) ≡ run.count - n = omega arith in
    part-two run n (omega arith)
    ∙ ap (λ k. singles_of (part_of run 0 n) ++ singles_of (part_of run n k)) (sym e)
    ∙ ap (λ xs. singles_of (part_of run 0 n) ++ xs) (part-split run n m (run.count - (n + m)))

module _ {low high : ℕ} {run : Run} {draft draft' : Drafted} {done done' : Run} {old new : UnlinkedSlots}
    (cut : IsCut low high run draft draft' done done' old new) (le : low ≤ high) where
  abbrev X : List Run
  X = singles_of (part_of run 0 cut.before)

  abbrev G : List Run
  G = singles_of (part_of run cut.before cut.inside)

  abbrev Y : List Run
  Y = singles_of (part_of run (cut.before + cut.inside) (run.count - (cut.before + cut.inside)))

  abbrev D : List Run
  D = singles (drafted draft done)

  parts : singles_of run ≡ X ++ (G ++ Y)
  parts = part-three run cut.before cut.inside cut.fits

  -- the addresses outside the range are left
  pub cut-outside : outside_records (singles_of run) low (high - low) ≡ X ++ Y
  cut-outside =
      let k = high - low in
      ap (λ xs. outside_records xs low k) parts
      ∙ outside-append X (G ++ Y) low k
      ∙ ap₂ (λ xs ys. xs ++ ys) (part-before run cut.before low k cut.front)
      (outside-append G Y low k ∙ ap₂ (λ xs ys. xs ++ ys)
      (part-inside run cut.before cut.inside low k (λ some. let g = cut.gone some in
      (g.0, omega (arith, g.1))))
      (part-behind run (cut.before + cut.inside) (run.count - (cut.before + cut.inside)) low k
      (λ some. let b = cut.back (omega arith) in omega (arith, b))))

  module _ (F T : List Run) (room : ℕ)
      (h : IsConsistent (F ++ (D ++ (singles_of run ++ T))) old.blocks old.free room)
      (between : AreBetween 0 max_capacity (F ++ (D ++ (singles_of run ++ T)))) where
    whole : F ++ (D ++ (singles_of run ++ T)) ≡ (F ++ (D ++ X)) ++ (G ++ (Y ++ T))
    whole = ap (λ xs. F ++ (D ++ (xs ++ T))) parts ∙ simp append_assoc

    left : F ++ (singles (drafted draft' done') ++ T) ≡ (F ++ (D ++ X)) ++ (Y ++ T)
    left = ap (λ xs. F ++ (xs ++ T)) cut.addresses ∙ simp append_assoc

    pub cut-consistent :
        IsConsistent (F ++ (singles (drafted draft' done') ++ T)) new.blocks new.free room
    cut-consistent = rw left (consistent-less (F ++ (D ++ X)) (Y ++ T) (run.start + cut.before)
        (run.first + cut.before) cut.inside run.kind old new room (rw whole at h) (rw whole at between)
        cut.gives)

    pub cut-between : AreBetween 0 max_capacity (F ++ (singles (drafted draft' done') ++ T))
    cut-between = rw left (between-less (F ++ (D ++ X)) G (Y ++ T) 0 max_capacity
        (rw whole at between))

-- ---- The extents of the table

pub run-there : (F D H : List Run) (runs : List Run) (i : ℕ) (d : Run) → i < length runs
    → F ++ (D ++ (singles (drop i runs) ++ H))
    ≡ F ++ (D ++ (singles_of (get_or runs i d) ++ (singles (drop (i + 1) runs) ++ H)))
run-there F D H runs i d lt =
    ap (λ xs. F ++ (D ++ (xs ++ H))) (ap singles (drop-run runs i d lt)
    ∙ singles-more (get_or runs i d) (drop (i + 1) runs))
    ∙ ap (λ xs. F ++ (D ++ xs))
    (append_assoc (singles_of (get_or runs i d)) (singles (drop (i + 1) runs)) H)

-- nothing is drafted at first
pub nothing-drafted : (run : Run) → run.count ≡ 0 → singles (run ∷ []) ≡ []
nothing-drafted run e = singles-last [] run ∙ ap (λ xs. xs ++ singles_of run) singles-none
    ∙ none-of run e

-- one more extent is cut
pub outside-more : (runs kept now : List Run) (i low k : ℕ) (d : Run) (rest : List Run)
    → i < length runs → kept ≡ outside_records (singles (take i runs)) low k
    → outside_records (singles_of (get_or runs i d)) low k ≡ rest → now ≡ kept ++ rest
    → now ≡ outside_records (singles (take (i + 1) runs)) low k
outside-more runs kept now i low k d rest lt e one more =
    more ∙ ap₂ (λ xs ys. xs ++ ys) e (sym one)
    ∙ sym (ap (λ xs. outside_records (singles xs) low k) (take_more runs i d lt)
    ∙ ap (λ xs. outside_records xs low k) (singles-last (take i runs) (get_or runs i d))
    ∙ outside-append (singles (take i runs)) (singles_of (get_or runs i d)) low k)

-- the table without the range
pub outside-table : (rs : List Run) (gathered : Drafted) (low high : ℕ)
    → AreGathered rs gathered low high → low ≤ high
    → outside_records (singles rs) low (high - low)
    ≡ singles (take gathered.from rs) ++ (outside_records (singles gathered.records) low (high - low)
    ++ singles (drop (end_index gathered) rs))
outside-table rs gathered low high g le =
    let k = high - low in
    let xs : List Run = take gathered.from rs in
    let ys : List Run = drop (end_index gathered) rs in
    ap (λ zs. outside_records zs low k)
    (ap singles (sym g.same) ∙ singles-parts xs gathered.records ys)
    ∙ outside-append (singles xs) (singles gathered.records ++ singles ys) low k
    ∙ ap₂ (λ vs ws. vs ++ ws)
    (outside-before (singles xs) 0 low low k (omega arith) (between-singles xs 0 low g.before))
    (outside-append (singles gathered.records) (singles ys) low k
    ∙ ap (λ zs. outside_records (singles gathered.records) low k ++ zs)
    (outside-behind (singles ys) high max_capacity low k (omega arith)
    (between-singles ys high max_capacity g.after)))

-- the new table
pub cut-table : (rs ds D : List Run) (slots : UnlinkedSlots) (from to room : ℕ) → singles ds ≡ D
    → IsConsistent (singles (take from rs) ++ (D ++ singles (drop to rs))) slots.blocks slots.free room
    → AreBetween 0 max_capacity (singles (take from rs) ++ (D ++ singles (drop to rs)))
    → All (IsExtent room) rs → All (IsExtent room) ds
    → AreMaximal (splice rs from to ds) → AreExtents (splice rs from to ds) slots room
cut-table rs ds D slots from to room e h between each others maximal =
    let new : List Run = splice rs from to ds in
    let all = all-splice (IsExtent room) rs ds from to each others in
    let parts = singles-parts (take from rs) ds (drop to rs)
    ∙ ap (λ xs. singles (take from rs) ++ (xs ++ singles (drop to rs))) e in
    record {
      apart = apart-by room new 0 max_capacity all (rw parts between);
      maximal = maximal;
      extents = all;
      consistent = rw parts h;
    }

-- it is maximal
outside-first : (xs : List Run) (r : Run) (low k : ℕ) → FirstIs xs r → r.start < low
    → FirstIs (outside_records xs low k) r
outside-first xs r low k is lt = (
  outside_records is.0 low k,
  ap (λ zs. outside_records zs low k) is.1 ∙ rw (below low k r.start lt) refl,
)

outside-last : (xs : List Run) (r : Run) (low k : ℕ) → LastIs xs r → low + k ≤ r.start
    → LastIs (outside_records xs low k) r
outside-last xs r low k is le = (
  outside_records is.0 low k,
  ap (λ zs. outside_records zs low k) is.1 ∙ outside-append is.0 (r ∷ []) low k
      ∙ ap (λ zs. outside_records is.0 low k ++ zs) (rw (above low k r.start le) refl),
)

pub cut-maximal : (rs ds : List Run) (gathered : Drafted) (slots : UnlinkedSlots) (room low high : ℕ)
    → AreExtents rs slots room → AreGathered rs gathered low high → low ≤ high
    → All (IsExtent room) ds → AreMaximal ds
    → singles ds ≡ outside_records (singles gathered.records) low (high - low)
    → AreMaximal (splice rs gathered.from (end_index gathered) ds)
cut-maximal rs ds gathered slots room low high h g le each k e =
    let xs : List Run = take gathered.from rs in
    let ys : List Run = drop (end_index gathered) rs in
    let gs : List Run = gathered.records in
    let near = (gathered-ahead rs gathered slots room low high h g).extents in
    max-put room xs gs ys ds (All-take (IsExtent room) gathered.from rs h.extents) near each
    (rw (← g.same) at h.maximal) k
    (elim (begins-there rs gathered room low high g near) [
      | inl none ↦ inl none
      | inr b ↦ inr (b.0, rw e (outside-first (singles gs) b.0 low (high - low) b.1 b.2), b.1)
    ])
    (elim (ends-there rs gathered room low high g near) [
      | inl none ↦ inl none
      | inr b ↦ inr (
        b.0,
        rw e (outside-last (singles gs) b.0 low (high - low) b.1
            (omega (arith, b.2))),
        b.1,
      )
    ])
