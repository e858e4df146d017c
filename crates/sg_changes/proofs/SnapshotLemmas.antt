-- A disk that is made anew, run by run.
use Rattle.std.proofs.Common.{◌≡◌, ℕ, ◌+◌, ◌-◌, ◌*◌, ◌<◌, ◌≤◌, zero, suc, Bool, true, false, cond, ◌&&◌}
use Rattle.std.proofs.Common.{not, eqb, is_some, List, [], ◌∷◌, ◌++◌, length, take, drop, get_or, Option}
use Rattle.std.proofs.Common.{Some, None, refl, sym, ap, ◌∙◌, arith, inl, inr, eq-eqb, true≢false}
use Rattle.std.proofs.Math.Seq.{drop-append-add, take-append_seam}
use Rattle.std.proofs.lemmas.Bool.{cases_lt, le-leb}
use Rattle.std.proofs.lemmas.Bool.Decides.{nat_tests}
use Rattle.std.proofs.lemmas.List.{length-append}
use Rattle.std.proofs.lemmas.List.FromFn.{get_or-range_with_len, length-range_with_len}
use Rattle.std.proofs.lemmas.List.Sums.{prefix_len_stops}
use Rattle.std.specs.Cmp.{nat_cmp_total}
use Rattle.std.specs.FinMap as map
use Rattle.std.specs.FinMap.{get-empty, len, nat_cmp-IsAntisymmetric, same_map}
use Rattle.std.specs.List.{prefix_len, range_with_len}
use Rattle.std.specs.Ordering.{nat_cmp}
use Rattle.std.specs.Prelude.{min, option_and_then, ◌==◌}
use Rattle.sg_store.specs.Disk.{Contents, Disk, HasBlockLength, IsWellFormed, Mapping, block, block_at}
use Rattle.sg_store.specs.Disk.{blocks, data_in, disk_anchored, disk_written, empty_disk, lies_in}
use Rattle.sg_store.specs.Disk.{remapped, unmapped, zero_block}
use Rattle.sg_store.specs.Disk.Mapping.{Anchored, Data}
use Rattle.sg_store.specs.LbaStatus.{count_alike, descriptor_at, max_addresses, status_at, status_in}
use Rattle.sg_store.proofs.DescriptorLemmas.{alike-within}
use Rattle.sg_store.proofs.DiskLemmas.{above, below, inside, lies_in-none}
use Rattle.sg_store.proofs.NeedLemmas.{len-needed}
use Rattle.sg_store.proofs.ReportLemmas.{alike-status}
use Rattle.sg_store.proofs.UnmapLemmas.{get-unmapped}
use Rattle.sg_store.proofs.WriteLemmas.{get-remapped}
use Rattle.sg_wire.specs.LbaStatus.{code_of}
use Rattle.sg_wire.specs.declared.extent.Extent.{Extent}
use Rattle.sg_wire.specs.declared.lba_status.ProvisioningStatus.{ProvisioningStatus}
use Rattle.sg_wire.specs.declared.lba_status.ProvisioningStatus.TheVariants as status
use Rattle.sg_changes.specs.Change.{Change, applied, applied_all, has_range, with_disk, within_pool}
use Rattle.sg_changes.specs.Change as change
use Rattle.sg_changes.specs.KeptFields.{KeptFields}
use Rattle.sg_changes.specs.Laws.{Describes, IsSoundDisk}
use Rattle.sg_changes.specs.Snapshot.{HasStatus, disk_below, kept_below, pool_blocks, run_changes}
use Rattle.sg_changes.proofs.SoundLemmas.{all-needed, len-unmapped}

-- ---- The descriptor at an address

alike-some : (m : Contents) (capacity a : ℕ) → a < capacity → 0 < count_alike m capacity a
unfolding count_alike
alike-some m capacity a lt =
    let n = min max_addresses (capacity - a) in
    let p : ℕ → Bool = λ x. code_of (status_at m x) == code_of (status_at m a) in
    let xs = range_with_len a n in
    let size = length-range_with_len a n in
    elim (cases_lt 0 (prefix_len p xs)) [
      | inl some ↦ some
      | inr none ↦
          let is : prefix_len p xs ≡ 0 = omega arith in
          let stops = prefix_len_stops p xs 0 (omega (arith, size, is)) in
          let at : get_or xs 0 0 ≡ a + 0 = get_or-range_with_len a n 0 0 (omega arith) in
          let here : a + 0 ≡ a = omega arith in
          let same : p a ≡ true = eq-eqb _ _ refl in
          let fails = ap (λ k. p (get_or xs k 0)) (sym is) ∙ stops in
          absurd (true≢false (sym same ∙ ap p (sym (at ∙ here)) ∙ fails))
    ]

pub described : (m : Contents) (capacity a : ℕ) → a < capacity
    → Describes m capacity (descriptor_at m capacity a)
described m capacity a lt =
    let within = alike-within m capacity a in
    record {
      some = alike-some m capacity a lt;
      within = omega (arith, within);
      status = λ i below. alike-status m capacity a i below;
    }

-- ---- An address by its status

mapped-is : (o : Option Mapping) → status_in o ≡ status.Mapped → o ≡ Some (Data (data_in o))
mapped-is None e = let wrong = e in cc
mapped-is (Some (Data b)) e = refl
mapped-is (Some Anchored) e = let wrong = e in cc

anchored-is : (o : Option Mapping) → status_in o ≡ status.Anchored → o ≡ Some Anchored
anchored-is None e = let wrong = e in cc
anchored-is (Some (Data b)) e = let wrong = e in cc
anchored-is (Some Anchored) e = refl

deallocated-is : (o : Option Mapping) → status_in o ≡ status.Deallocated → o ≡ None
deallocated-is None e = refl
deallocated-is (Some (Data b)) e = let wrong = e in cc
deallocated-is (Some Anchored) e = let wrong = e in cc

-- ---- Joined blocks

whole-block : (o : Option Mapping) → ((x : Mapping) → o ≡ Some x → HasBlockLength x)
    → length (data_in o) ≡ 512
unfolding zero_block
whole-block None whole = refl
whole-block (Some (Data b)) whole = whole (Data b) refl
whole-block (Some Anchored) whole = refl

module _ (capacity : ℕ) (m : Contents) (well : IsWellFormed capacity m) where
  length-block : (a : ℕ) → length (block m a) ≡ 512
  length-block a = whole-block (map.get m a) (λ x e. (well.each a x e).1)

  pub length-blocks : (a k : ℕ) → length (blocks m a k) ≡ 512 * k
  unfolding blocks
  length-blocks a zero = refl
  length-blocks a (suc k) =
      let rest = length-blocks (a + 1) k in
      let first = length-block a in
      length-append (block m a) (blocks m (a + 1) k) ∙ omega (arith, rest, first)

  -- the block at an index is that of its address
  pub block_at-blocks : (a k i : ℕ) → i < k → block_at (blocks m a k) i ≡ block m (a + i)
  unfolding blocks
  block_at-blocks a zero i lt = absurd (omega arith)
  block_at-blocks a (suc k) zero lt =
      let first = length-block a in
      let e : a + 0 ≡ a = omega arith in
      ap (λ n. take n (block m a ++ blocks m (a + 1) k)) (sym first)
      ∙ take-append_seam (block m a) (blocks m (a + 1) k) ∙ ap (block m) (sym e)
  block_at-blocks a (suc k) (suc i) lt =
      let first = length-block a in
      let skipped : 512 * suc i ≡ length (block m a) + 512 * i = omega (arith, first) in
      let e : a + 1 + i ≡ a + suc i = omega arith in
      ap (λ n. take 512 (drop n (block m a ++ blocks m (a + 1) k))) skipped
      ∙ ap (take 512) (drop-append-add (block m a) (blocks m (a + 1) k) (512 * i))
      ∙ block_at-blocks (a + 1) k i (omega arith) ∙ ap (block m) e

-- ---- The disk below an address

-- the addresses of an extent are in none of the blocks below it, nor past it
module _ (m : Contents) (c a k : ℕ) (within : a + k ≤ c) where
  before : (q : ℕ) → q < a → lies_in a k q ≡ false
  before q lt = below a k q lt

  abbrev rest : (from q : ℕ) → Option Mapping
  rest from q = cond (not (lies_in from (c - from) q)) (map.get m q) None

  rest-below : (from q : ℕ) → q < from → rest from q ≡ map.get m q
  rest-below from q lt = ap (λ b. cond (not b) (map.get m q) None) (below from (c - from) q lt)

  rest-within : (from q : ℕ) → from ≤ q → q < c → rest from q ≡ None
  rest-within from q ge lt =
      ap (λ b. cond (not b) (map.get m q) None) (inside from (c - from) q ge (omega arith))

  rest-past : (from q : ℕ) → from ≤ c → c ≤ q → rest from q ≡ map.get m q
  rest-past from q le ge = ap (λ b. cond (not b) (map.get m q) None) (above from (c - from) q (omega arith))

  by-place : (f : ℕ → Mapping) → ((i : ℕ) → i < k → map.get m (a + i) ≡ Some (f i)) → (q : ℕ)
      → cond (lies_in a k q) (Some (f (q - a))) (rest a q) ≡ rest (a + k) q
  by-place f each q = elim (cases_lt q a) [
    | inl low ↦
        ap (λ b. cond b (Some (f (q - a))) (rest a q)) (below a k q low)
        ∙ rest-below a q low ∙ sym (rest-below (a + k) q (omega arith))
    | inr high ↦ elim (cases_lt q (a + k)) [
      | inl here ↦
          let on : a + (q - a) ≡ q = omega arith in
          ap (λ b. cond b (Some (f (q - a))) (rest a q)) (inside a k q high here)
          ∙ sym (each (q - a) (omega arith)) ∙ ap (map.get m) on
          ∙ sym (rest-below (a + k) q here)
      | inr later ↦
          ap (λ b. cond b (Some (f (q - a))) (rest a q)) (above a k q later)
          ∙ (elim (cases_lt q c) [
            | inl lt ↦ rest-within a q high lt ∙ sym (rest-within (a + k) q later lt)
            | inr past ↦ rest-past a q (omega arith) past ∙ sym (rest-past (a + k) q within past)
          ])
    ]
  ]

  pub remapped-below : (f : ℕ → Mapping) → ((i : ℕ) → i < k → map.get m (a + i) ≡ Some (f i))
      → remapped (unmapped m a (c - a)) a k f ≡ unmapped m (a + k) (c - (a + k))
  remapped-below f each = same_map nat_cmp_total nat_cmp-IsAntisymmetric _ _ (λ q.
      get-remapped (unmapped m a (c - a)) a k f q
      ∙ ap (cond (lies_in a k q) (Some (f (q - a)))) (get-unmapped m a (c - a) q)
      ∙ by-place f each q ∙ sym (get-unmapped m (a + k) (c - (a + k)) q))

  pub passed-below : ((i : ℕ) → i < k → map.get m (a + i) ≡ None)
      → unmapped m a (c - a) ≡ unmapped m (a + k) (c - (a + k))
  passed-below each = same_map nat_cmp_total nat_cmp-IsAntisymmetric _ _ (λ q.
      get-unmapped m a (c - a) q
      ∙ (elim (cases_lt q a) [
        | inl low ↦ rest-below a q low ∙ sym (rest-below (a + k) q (omega arith))
        | inr high ↦ elim (cases_lt q (a + k)) [
          | inl here ↦
              let on : a + (q - a) ≡ q = omega arith in
              rest-within a q high (omega arith) ∙ sym (each (q - a) (omega arith)) ∙ ap (map.get m) on
              ∙ sym (rest-below (a + k) q here)
          | inr later ↦ elim (cases_lt q c) [
            | inl lt ↦ rest-within a q high lt ∙ sym (rest-within (a + k) q later lt)
            | inr past ↦ rest-past a q (omega arith) past ∙ sym (rest-past (a + k) q within past)
          ]
        ]
      ])
      ∙ sym (get-unmapped m (a + k) (c - (a + k)) q))

  -- its addresses have no block of the pool below it
  pub needed-below : (f : ℕ → Mapping)
      → len (remapped (unmapped m a (c - a)) a k f) ≡ len (unmapped m a (c - a)) + k
  needed-below f =
      let all = all-needed (unmapped m a (c - a)) a k (λ i lt.
      ap is_some (get-unmapped m a (c - a) (a + i) ∙ rest-within a (a + i) (omega arith) (omega arith))) in
      len-needed (unmapped m a (c - a)) a k f ∙ ap (λ n. len (unmapped m a (c - a)) + n) all

pub all-below : (disk : Disk) → disk_below disk disk.capacity ≡ disk
all-below disk =
    let c = disk.capacity in
    let nothing : c - c ≡ 0 = omega arith in
    ap (λ (m : Contents). record disk { contents = m })
    (ap (unmapped disk.contents c) nothing
    ∙ same_map nat_cmp_total nat_cmp-IsAntisymmetric _ _ (λ q.
    get-unmapped disk.contents c 0 q
    ∙ ap (λ b. cond (not b) (map.get disk.contents q) None) (lies_in-none c q)))

nothing-past : (c : ℕ) (m : Contents) → IsWellFormed c m → (q : ℕ) → c ≤ q → map.get m q ≡ None
nothing-past c m well q past = by-case (map.get m q) refl
  where
    by-case : (o : Option Mapping) → map.get m q ≡ o → o ≡ None
    by-case None e = refl
    by-case (Some x) e = let lt = (well.each q x e).0 in absurd (omega (arith, lt, past))

pub none-below : (disk : Disk) → IsSoundDisk disk
    → disk_below disk 0 ≡ empty_disk disk.capacity disk.pool
none-below disk sound =
    let c = disk.capacity in
    let m = disk.contents in
    ap (λ (x : Contents). record disk { contents = x })
    (same_map nat_cmp_total nat_cmp-IsAntisymmetric _ _ (λ q.
    get-unmapped m 0 (c - 0) q
    ∙ (elim (cases_lt q c) [
      | inl lt ↦ rest-within m c 0 0 (omega arith) 0 q (omega arith) lt
      | inr past ↦
          rest-past m c 0 0 (omega arith) 0 q (omega arith) past ∙ nothing-past c m sound.blocks q past
    ])
    ∙ sym (get-empty nat_cmp q)))

-- ---- The changes of a run

if-both : {A : Type 0} (a b : Bool) (x y : A) → a ≡ true → b ≡ true → cond (a && b) x y ≡ x
if-both true b x y e f = ap (λ c. cond c x y) f
if-both false b x y e f = cc

in-pool : (disk : Disk) → len disk.contents ≤ disk.pool → within_pool disk ≡ Some disk
in-pool disk fits = grind (arith, nat_tests)

module _ (kept : KeptFields) (extent : Extent) (sound : IsSoundDisk kept.disk)
    (within : extent.lba + extent.count ≤ kept.disk.capacity) where
  abbrev disk : Disk
  disk = kept.disk

  abbrev m : Contents
  m = disk.contents

  abbrev c : ℕ
  c = disk.capacity

  abbrev a : ℕ
  a = extent.lba

  abbrev k : ℕ
  k = extent.count

  abbrev end : ℕ
  end = extent.lba + extent.count

  -- the disk below the end is within the pool
  fits : within_pool (disk_below disk end) ≡ Some (disk_below disk end)
  fits =
      let fewer = len-unmapped m end (c - end) in
      in-pool (disk_below disk end) (omega (arith, fewer, sound.pool))

  with-contents : (x : Contents) → x ≡ unmapped m end (c - end)
      → within_pool (record disk { contents = x }) ≡ Some (disk_below disk end)
  with-contents x e = ap (λ (y : Contents). within_pool (record disk { contents = y })) e ∙ fits

  one-applied : (first : Change)
      → applied (kept_below kept a) first ≡ with_disk (kept_below kept a) (Some (disk_below disk end))
      → applied_all (kept_below kept a) (first ∷ []) ≡ Some (kept_below kept end)
  one-applied first e = ap (λ o. option_and_then (λ left. applied_all left []) o) e

  written-run : HasStatus m extent status.Mapped
      → change.written (disk_below disk a) extent (blocks m a k) ≡ Some (disk_below disk end)
  written-run each =
      let bytes = blocks m a k in
      let whole = length-blocks c m sound.blocks a k in
      if-both (has_range (disk_below disk a) a k) (eqb (length bytes) (512 * k))
      (within_pool (disk_written (disk_below disk a) a k bytes)) None
      (le-leb (a + k) c within) (eq-eqb (length bytes) (512 * k) whole)
      ∙ with-contents (remapped (unmapped m a (c - a)) a k (λ i. Data (block_at bytes i)))
      (remapped-below m c a k within (λ i. Data (block_at bytes i)) (λ i lt.
      mapped-is (map.get m (a + i)) (each i lt)
      ∙ ap (λ (b : List ℕ). Some (Data b)) (sym (block_at-blocks c m sound.blocks a k i lt))))

  anchored-run : HasStatus m extent status.Anchored
      → change.anchored (disk_below disk a) extent ≡ Some (disk_below disk end)
  anchored-run each =
      ap (λ b. cond b (within_pool (disk_anchored (disk_below disk a) a k)) None) (le-leb (a + k) c within)
      ∙ with-contents (remapped (unmapped m a (c - a)) a k (λ i. Anchored))
      (remapped-below m c a k within (λ i. Anchored) (λ i lt. anchored-is (map.get m (a + i)) (each i lt)))

pub run-applied : (kept : KeptFields) (extent : Extent) (s : ProvisioningStatus) → IsSoundDisk kept.disk
    → extent.lba + extent.count ≤ kept.disk.capacity → HasStatus kept.disk.contents extent s
    → applied_all (kept_below kept extent.lba) (run_changes kept.disk.contents extent s)
    ≡ Some (kept_below kept (extent.lba + extent.count))
run-applied kept extent status.Mapped sound within each =
    let bytes = blocks kept.disk.contents extent.lba extent.count in
    one-applied kept extent sound within (change.Change.Write extent bytes)
    (ap (with_disk (kept_below kept extent.lba)) (written-run kept extent sound within each))
run-applied kept extent status.Anchored sound within each =
    one-applied kept extent sound within (change.Change.Anchor extent)
    (ap (with_disk (kept_below kept extent.lba)) (anchored-run kept extent sound within each))
run-applied kept extent status.Deallocated sound within each =
    ap (λ (x : Contents). Some (record kept { disk = record kept.disk { contents = x } }))
    (passed-below kept.disk.contents kept.disk.capacity extent.lba extent.count within
    (λ i lt. deallocated-is (map.get kept.disk.contents (extent.lba + i)) (each i lt)))

pub run-used : (whole : Disk) (extent : Extent) (s : ProvisioningStatus)
    → extent.lba + extent.count ≤ whole.capacity → HasStatus whole.contents extent s
    → len (disk_below whole (extent.lba + extent.count)).contents
    ≡ len (disk_below whole extent.lba).contents + pool_blocks s extent.count
run-used whole extent status.Mapped within each =
    let m = whole.contents in
    let f : ℕ → Mapping = λ i. Data (block m (extent.lba + i)) in
    ap len (sym (remapped-below m whole.capacity extent.lba extent.count within f
    (λ i lt. mapped-is (map.get m (extent.lba + i)) (each i lt))))
    ∙ needed-below m whole.capacity extent.lba extent.count within f
run-used whole extent status.Anchored within each =
    let m = whole.contents in
    ap len (sym (remapped-below m whole.capacity extent.lba extent.count within (λ i. Anchored)
    (λ i lt. anchored-is (map.get m (extent.lba + i)) (each i lt))))
    ∙ needed-below m whole.capacity extent.lba extent.count within (λ i. Anchored)
run-used whole extent status.Deallocated within each =
    let m = whole.contents in
    let none : len (disk_below whole extent.lba).contents + 0 ≡ len (disk_below whole extent.lba).contents =
    omega arith in
    ap len (sym (passed-below m whole.capacity extent.lba extent.count within
    (λ i lt. deallocated-is (map.get m (extent.lba + i)) (each i lt)))) ∙ sym none
