-- What is kept keeps the limits of a disk, whatever records say.
use Rattle.std.proofs.Common.{◌≡◌, ◌≤◌, ◌<◌, ◌+◌, ◌*◌, ℕ, zero, suc, Bool, true, false, ◌&&◌, cond, not}
use Rattle.std.proofs.Common.{ltb, leb, eqb, is_some, List, [], ◌∷◌, length, take, drop, Option, Some, None}
use Rattle.std.proofs.Common.{refl, sym, ap, ap₂, subst, ◌∙◌, arith, length-drop}
use Rattle.std.specs.Cmp.{nat_cmp_total}
use Rattle.std.specs.FinMap as map
use Rattle.std.specs.FinMap.{len, len-empty, nat_cmp-IsAntisymmetric, same_map}
use Rattle.std.specs.Ordering.{nat_cmp}
use Rattle.std.specs.Prelude.{option_map}
use Rattle.std.proofs.lemmas.Bool.{and_parts, eqb-true, leb-true, ltb-false}
use Rattle.std.proofs.lemmas.List.{length-take-le}
use Rattle.std.proofs.Math.Nat.{mul-le-mul_left, mul-suc}
use Rattle.sg_store.specs.Disk.{Contents, Disk, HasBlockLength, Mapping, anchored as anchored_contents}
use Rattle.sg_store.specs.Disk.{block_at, block_length, lies_in, max_capacity, need, remapped}
use Rattle.sg_store.specs.Disk.{unmapped as unmapped_contents}
use Rattle.sg_store.specs.Disk.Mapping.{Anchored, Data}
use Rattle.sg_store.proofs.DiskLemmas.{inside}
use Rattle.sg_store.proofs.NeedLemmas.{len-needed, need-le, need-next, need-none}
use Rattle.sg_store.proofs.UnmapLemmas.{get-unmapped, well_formed-unmapped}
use Rattle.sg_store.proofs.WellFormedLemmas.{well_formed-empty, well_formed-grown, well_formed-remapped}
use Rattle.sg_store.proofs.WriteLemmas.{get-remapped}
use Rattle.sg_units.specs.PowerOn.{empty_state}
use Rattle.sg_units.specs.Restored.{are_consistent}
use Rattle.sg_units.proofs.ConsistencyLemmas.{consistent-none}
use Rattle.sg_units.proofs.RestoredLemmas.{consistent-shown}
use Rattle.sg_wire.specs.declared.extent.Extent.{Extent}
use Rattle.sg_changes.specs.Change.{Change, Persistent, anchored, applied, filled, grown, has_range, restored}
use Rattle.sg_changes.specs.Change.{unmapped, with_disk, within_pool, written}
use Rattle.sg_changes.specs.Change.Change.{Write, Fill, Unmap, Anchor, Pages, Reservations, Faults, Grow}
use Rattle.sg_changes.specs.FirstRecord.{NewDiskFields, is_new_disk, new_disk_kept}
use Rattle.sg_changes.specs.KeptFields.{KeptFields}
use Rattle.sg_changes.specs.Laws.{IsSound, IsSoundDisk}
use Rattle.sg_changes.specs.Replay.{replayed}
use Rattle.sg_changes.proofs.ReplayLemmas.{first_applied, replayed_nil}

-- ---- Unmapping takes no block of the pool

pub all-needed : (m : Contents) (a k : ℕ) → ((i : ℕ) → i < k → map.contains_key m (a + i) ≡ false)
    → need m a k ≡ k
all-needed m a zero h = need-none m a
all-needed m a (suc k) h =
    let e : suc k ≡ k + 1 = omega arith in
    rw (e, need-next m a k)
    (ap₂ (λ (x : ℕ) (b : Bool). x + cond b 0 1) (all-needed m a k (λ i lt. h i (omega arith)))
    (h k (omega arith)))

-- an address of the range has no block of the pool
gone : (m : Contents) (a k i : ℕ) → i < k → map.contains_key (unmapped_contents m a k) (a + i) ≡ false
gone m a k i lt =
    ap is_some (get-unmapped m a k (a + i)
    ∙ ap (λ b. cond (not b) (map.get m (a + i)) None) (inside a k (a + i) (omega arith) (omega arith)))

skipped : {A : Type 0} (b : Bool) (x y z : A) → cond b x (cond (not b) z y) ≡ cond b x z
skipped true x y z = refl
skipped false x y z = refl

-- once a range is anchored, it does not matter what it had before
same-anchored : (m : Contents) (a k : ℕ)
    → anchored_contents (unmapped_contents m a k) a k ≡ anchored_contents m a k
same-anchored m a k = same_map nat_cmp_total nat_cmp-IsAntisymmetric _ _ (λ q.
    get-remapped (unmapped_contents m a k) a k (λ index. Anchored) q
    ∙ ap (cond (lies_in a k q) (Some Anchored)) (get-unmapped m a k q)
    ∙ skipped (lies_in a k q) (Some Anchored) None (map.get m q)
    ∙ sym (get-remapped m a k (λ index. Anchored) q))

pub len-unmapped : (m : Contents) (a k : ℕ) → len (unmapped_contents m a k) ≤ len m
len-unmapped m a k =
    let same = ap len (same-anchored m a k) in
    let of_rest = len-needed (unmapped_contents m a k) a k (λ index. Anchored) in
    let of_all = len-needed m a k (λ index. Anchored) in
    let all = all-needed (unmapped_contents m a k) a k (gone m a k) in
    omega (arith, same, of_rest, of_all, need-le m a k, all)

-- ---- Disks

-- a block of joined blocks is whole
block-length : (n count i : ℕ) (bytes : List ℕ) → length bytes ≡ n * count → i < count
    → length (take n (drop (n * i) bytes)) ≡ n
block-length n count i bytes size lt =
    let end : n * suc i ≤ n * count = mul-le-mul_left n (omega arith) in
    length-take-le n (drop (n * i) bytes) (omega (arith, end, mul-suc n i, size, length-drop (n * i) bytes))

within : (disk new : Disk) → within_pool disk ≡ Some new → (disk ≡ new) × (len disk.contents ≤ disk.pool)
within disk new e =
    let parts = not-over (ltb disk.pool (len disk.contents)) disk new e in
    (parts.1, ltb-false disk.pool (len disk.contents) parts.0)
  where
    not-over : (b : Bool) (x y : Disk) → cond b None (Some x) ≡ Some y → (b ≡ false) × (x ≡ y)
    not-over true x y e = absurd cc
    not-over false x y e = (refl, cc)

tested : {A : Type 0} (b : Bool) (o : Option A) (y : A) → cond b o None ≡ Some y → (b ≡ true) × (o ≡ Some y)
tested true o y e = (refl, e)
tested false o y e = absurd cc

-- remapped addresses, within the pool
sound-remapped : (disk new : Disk) (lba count : ℕ) (mapping : ℕ → Mapping) → IsSoundDisk disk
    → lba + count ≤ disk.capacity → ((i : ℕ) → i < count → HasBlockLength (mapping i))
    → within_pool (record disk { contents = remapped disk.contents lba count mapping }) ≡ Some new
    → IsSoundDisk new
sound-remapped disk new lba count mapping sound range whole e =
    let remade : Disk = record disk { contents = remapped disk.contents lba count mapping } in
    let parts = within remade new e in
    subst IsSoundDisk parts.0 (record {
      capacity = sound.capacity;
      pool = parts.1;
      blocks = well_formed-remapped disk.capacity disk.contents lba count mapping sound.blocks range whole;
    })

sound-written : (disk new : Disk) (extent : Extent) (blocks : List ℕ) → IsSoundDisk disk
    → written disk extent blocks ≡ Some new → IsSoundDisk new
sound-written disk new extent blocks sound e =
    let a = tested (has_range disk extent.lba extent.count && eqb (length blocks)
    (block_length * extent.count))
    _ new e in
    let b = and_parts (has_range disk extent.lba extent.count) _ a.0 in
    sound-remapped disk new extent.lba extent.count (λ i. Data (block_at blocks i)) sound
    (leb-true (extent.lba + extent.count) disk.capacity b.0)
    (λ i lt. block-length block_length extent.count i blocks
    (eqb-true (length blocks) (block_length * extent.count) b.1) lt)
    a.1

sound-filled : (disk new : Disk) (extent : Extent) (block : List ℕ) → IsSoundDisk disk
    → filled disk extent block ≡ Some new → IsSoundDisk new
sound-filled disk new extent block sound e =
    let a = tested (has_range disk extent.lba extent.count && eqb (length block) block_length) _ new e in
    let b = and_parts (has_range disk extent.lba extent.count) _ a.0 in
    sound-remapped disk new extent.lba extent.count (λ i. Data block) sound
    (leb-true (extent.lba + extent.count) disk.capacity b.0)
    (λ i lt. eqb-true (length block) block_length b.1) a.1

sound-anchored : (disk new : Disk) (extent : Extent) → IsSoundDisk disk → anchored disk extent ≡ Some new
    → IsSoundDisk new
sound-anchored disk new extent sound e =
    let a = tested (has_range disk extent.lba extent.count) _ new e in
    sound-remapped disk new extent.lba extent.count (λ i. Anchored) sound
    (leb-true (extent.lba + extent.count) disk.capacity a.0) (λ i lt. tt) a.1

sound-unmapped : (disk new : Disk) (lba count : ℕ) → IsSoundDisk disk → unmapped disk lba count ≡ Some new
    → IsSoundDisk new
sound-unmapped disk new lba count sound e =
    let a = tested (has_range disk lba count) _ new e in
    let same : record disk { contents = unmapped_contents disk.contents lba count } ≡ new = cc (a.1) in
    let fewer = len-unmapped disk.contents lba count in
    subst IsSoundDisk same (record {
      capacity = sound.capacity;
      pool = omega (arith, fewer, sound.pool);
      blocks = well_formed-unmapped disk.capacity disk.contents lba count sound.blocks;
    })

sound-grown : (disk new : Disk) (capacity : ℕ) → IsSoundDisk disk → grown disk capacity ≡ Some new
    → IsSoundDisk new
sound-grown disk new capacity sound e =
    let a = tested (leb disk.capacity capacity && leb capacity max_capacity) _ new e in
    let b = and_parts (leb disk.capacity capacity) (leb capacity max_capacity) a.0 in
    let same : record disk { capacity = capacity } ≡ new = cc (a.1) in
    subst IsSoundDisk same (record {
      capacity = leb-true capacity max_capacity b.1;
      pool = sound.pool;
      blocks = well_formed-grown disk.capacity capacity disk.contents sound.blocks
          (leb-true disk.capacity capacity b.0);
    })

-- ---- Changes

sound-with : (kept new : KeptFields) (disk : Option Disk) → IsSound kept
    → ((d : Disk) → disk ≡ Some d → IsSoundDisk d) → with_disk kept disk ≡ Some new → IsSound new
sound-with kept new None sound each e = absurd cc
sound-with kept new (Some d) sound each e =
    let same : record kept { disk = d } ≡ new = cc in
    subst IsSound same (record { disk = each d refl; reservations = sound.reservations })

sound-restored : (kept new : KeptFields) (p : Option Persistent) → IsSound kept
    → option_map (λ r. record kept { reservations = r }) (restored p) ≡ Some new → IsSound new
sound-restored kept new None sound e =
    let same : record kept { reservations = empty_state } ≡ new = cc in
    subst IsSound same (record { disk = sound.disk; reservations = consistent-none })
sound-restored kept new (Some p) sound e =
    by-test (are_consistent p.registrations p.reservation) refl e
  where
    by-test : (b : Bool) → are_consistent p.registrations p.reservation ≡ b
        → option_map (λ r. record kept { reservations = r }) (cond b (Some (record {
          registrations = p.registrations;
          reservation = p.reservation;
          generation = 0;
          persists_through_power_loss = true;
        })) None) ≡ Some new → IsSound new
    by-test true is f =
        let same : record kept {
          reservations = record {
            registrations = p.registrations;
            reservation = p.reservation;
            generation = 0;
            persists_through_power_loss = true;
          };
        } ≡ new = cc in
        subst IsSound same
        (record { disk = sound.disk; reservations = consistent-shown p.registrations p.reservation is })
    by-test false is f = absurd cc

sound-applied : (kept new : KeptFields) (change : Change) → IsSound kept → applied kept change ≡ Some new
    → IsSound new
sound-applied kept new (Write extent blocks) sound e =
    sound-with kept new (written kept.disk extent blocks) sound
    (λ d f. sound-written kept.disk d extent blocks sound.disk f) e
sound-applied kept new (Fill extent block) sound e =
    sound-with kept new (filled kept.disk extent block) sound
    (λ d f. sound-filled kept.disk d extent block sound.disk f) e
sound-applied kept new (Unmap lba count) sound e =
    sound-with kept new (unmapped kept.disk lba count) sound
    (λ d f. sound-unmapped kept.disk d lba count sound.disk f) e
sound-applied kept new (Anchor extent) sound e =
    sound-with kept new (anchored kept.disk extent) sound
    (λ d f. sound-anchored kept.disk d extent sound.disk f) e
sound-applied kept new (Grow capacity) sound e =
    sound-with kept new (grown kept.disk capacity) sound
    (λ d f. sound-grown kept.disk d capacity sound.disk f) e
sound-applied kept new (Reservations p) sound e = sound-restored kept new p sound e
sound-applied kept new (Pages saved) sound e =
    let same : record kept { saved = saved } ≡ new = cc in
    subst IsSound same (record { disk = sound.disk; reservations = sound.reservations })
sound-applied kept new (Faults slots) sound e =
    let same : record kept { faults = slots } ≡ new = cc in
    subst IsSound same (record { disk = sound.disk; reservations = sound.reservations })

-- ---- Records

sound-by : (n : ℕ) (bytes : List ℕ) (kept new : KeptFields) → length bytes ≤ n → IsSound kept
    → replayed bytes kept ≡ Some new → IsSound new
sound-by n [] kept new le sound e = subst IsSound (cc (replayed_nil kept)) sound
sound-by zero (x ∷ bytes) kept new le sound e = absurd (omega arith)
sound-by (suc n) (x ∷ bytes) kept new le sound e =
    first_applied (x ∷ bytes) kept new (omega arith) e (IsSound new)
    (λ middle rest change short applies then.
    sound-by n rest middle new (omega arith) (sound-applied kept middle change sound applies) then)

pub sound-replayed : (bytes : List ℕ) (kept new : KeptFields) → IsSound kept → replayed bytes kept ≡ Some new
    → IsSound new
sound-replayed bytes kept new sound e = sound-by (length bytes) bytes kept new (omega arith) sound e

pub sound-new : (disk : NewDiskFields) → is_new_disk disk ≡ true → IsSound (new_disk_kept disk)
sound-new disk valid =
    let a = and_parts (leb 1 disk.capacity && leb disk.capacity max_capacity) _ valid in
    let b = and_parts (leb 1 disk.capacity) (leb disk.capacity max_capacity) a.0 in
    record {
      disk = record {
        capacity = leb-true disk.capacity max_capacity b.1;
        pool = omega (arith, len-empty nat_cmp Mapping);
        blocks = well_formed-empty disk.capacity;
      };
      reservations = consistent-none;
    }
