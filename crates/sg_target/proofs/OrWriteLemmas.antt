-- ORWRITE block by block, and what EXTENDED COPY has in common with it.
use Rattle.std.proofs.Common.{◌≡◌, ◌↔◌, ◌≤◌, ◌<◌, ℕ, ◌+◌, ◌-◌, zero, suc, List, [], ◌∷◌, ◌++◌, length}
use Rattle.std.proofs.Common.{get_or, min, bit_or, zip, true, false, cond, Option, Some, None}
use Rattle.std.proofs.Common.{Result, Ok, Err, IsErr, OnOk, is_ok, refl, sym, ap, ap₂, subst, ◌∙◌, arith}
use Rattle.std.proofs.Common.{append_assoc}
use Rattle.std.proofs.lemmas.Bool.Decides.{nat_tests}
use Rattle.std.proofs.lemmas.List.{append-nil, ext_get_or, length-map}
use Rattle.std.proofs.lemmas.Slice.Zip.{length-zip}
use Rattle.std.specs.Cmp.{nat_cmp_total}
use Rattle.std.specs.FinMap.{get, len, same_map, nat_cmp-IsAntisymmetric}
use Rattle.std.specs.List.{flat_map, range_with_len}
use Rattle.std.specs.Prelude.{if◌then◌else◌, is_none}
use Rattle.sg_wire.specs.declared.extent.Extent.{Extent}
use Rattle.sg_store.specs.Disk.{Contents, Disk, IsOverfull, IsWellFormed, Mapping, block, block_at, blocks}
use Rattle.sg_store.specs.Disk.{data_in, disk_replaced, lies_in, max_pool, need, remapped, replaced}
use Rattle.sg_store.specs.Disk.{zero_block}
use Rattle.sg_store.specs.Disk.Mapping.{Data, Anchored}
use Rattle.sg_store.specs.Laws.{RemappingTakesWhatIsNeeded}
use Rattle.sg_store.specs.Meter.{Charged, ChargedOnOk, Meter, no_counts}
use Rattle.sg_store.specs.declared.store.Counts.{Counts}
use Rattle.sg_store.specs.declared.store.Space.{Space}
use Rattle.sg_target.specs.Anchoring.{CostsOnOk}
use Rattle.sg_target.specs.BlockCommands.{BlocksOutFields, or_bytes, ored_block}
use Rattle.sg_target.specs.Charge.{CostBounds, IsCounted, IsWithinPrice, least_over}
use Rattle.sg_target.specs.Demands.{extent}
use Rattle.sg_target.specs.Effect.{no_space}
use Rattle.sg_target.specs.BlockByBlock.{CountsBlock, block_filled}
use Rattle.sg_target.specs.Ranges.{Range, block_ranges, counted_range, range}
use Rattle.sg_target.proofs.ChargingLemmas.{counted-more}
use Rattle.sg_target.proofs.Space.{space-unless}

-- ---- the bits of bytes

pub length-or : (old bytes : List ℕ) → length (or_bytes old bytes) ≡ min (length old) (length bytes)
length-or old bytes =
    length-map (zip old bytes) (λ (pair : ℕ × ℕ). bit_or pair.0 pair.1) ∙ length-zip old bytes

pub get_or-or : (old bytes : List ℕ) (k : ℕ) → k < length old → k < length bytes
    → get_or (or_bytes old bytes) k 0 ≡ bit_or (get_or old k 0) (get_or bytes k 0)
get_or-or [] bytes k h l = absurd (omega arith)
get_or-or (x ∷ xs) [] k h l = absurd (omega arith)
get_or-or (x ∷ xs) (y ∷ ys) zero h l = refl
get_or-or (x ∷ xs) (y ∷ ys) (suc k) h l = get_or-or xs ys k (omega arith) (omega arith)

-- all bits are set
pub bits-set : (n : ℕ) (old bytes new : List ℕ) → length old ≡ n → length bytes ≡ n → length new ≡ n
    → ((k : ℕ) → k < n → get_or new k 0 ≡ bit_or (get_or old k 0) (get_or bytes k 0))
    → new ≡ or_bytes old bytes
bits-set n old bytes new o b k h =
    ext_get_or 0 new (or_bytes old bytes) (omega (arith, length-or old bytes, o, b, k))
    (λ i lt. h i (omega arith) ∙ sym (get_or-or old bytes i (omega arith) (omega arith)))

-- ---- blocks that are replaced in turn

-- the block after some that are replaced
skipped : (a i : ℕ) → lies_in a i (a + i) ≡ false
skipped a i = grind (arith, nat_tests)

one-more : (a i q : ℕ) {X : Type 0} (f : ℕ → X) (x : X)
    → cond (lies_in (a + i) 1 q) (f i) (cond (lies_in a i q) (f (q - a)) x)
    ≡ cond (lies_in a (i + 1) q) (f (q - a)) x
one-more a i q f x = grind (arith, nat_tests)

module _ (law : RemappingTakesWhatIsNeeded) where
  pub block-after : (m : Contents) (a i : ℕ) (f : ℕ → List ℕ)
      → block (replaced m a i f) (a + i) ≡ block m (a + i)
  block-after m a i f =
      ap data_in (law.found m a i (λ index. Data (f index)) (a + i)
      ∙ ap (λ b. cond b (Some (Data (f (a + i - a)))) (get m (a + i))) (skipped a i))

  pub replaced-more : (m : Contents) (a i : ℕ) (f : ℕ → List ℕ)
      → replaced (replaced m a i f) (a + i) 1 (λ index. f i) ≡ replaced m a (i + 1) f
  replaced-more m a i f = same_map nat_cmp_total nat_cmp-IsAntisymmetric _ _ (λ q.
      law.found (replaced m a i f) (a + i) 1 (λ index. Data (f i)) q
      ∙ ap (cond (lies_in (a + i) 1 q) (Some (Data (f i)))) (law.found m a i (λ index. Data (f index)) q)
      ∙ one-more a i q (λ index. Some (Data (f index))) (get m q)
      ∙ sym (law.found m a (i + 1) (λ index. Data (f index)) q))

  need-grows : (m : Contents) (a i k : ℕ) → need m a i ≤ need m a (i + k)
  need-grows m a i zero = let e : i + 0 ≡ i = omega arith in rw e (omega arith)
  need-grows m a i (suc k) =
      let rest = need-grows m a i k in
      let more = law.of_one_more m a (i + k) in
      let e : i + suc k ≡ i + k + 1 = omega arith in
      rw e (omega arith)

  -- there is room for the next block if there is room for all
  pub room-next : (m : Contents) (a i n : ℕ) (f : ℕ → List ℕ) → i < n
      → len (replaced m a i f) + need (replaced m a i f) (a + i) 1 ≤ len m + need m a n
  room-next m a i n f below =
      let one = law.taken (replaced m a i f) (a + i) 1 (λ index. Data (f i)) in
      let same = ap len (replaced-more m a i f) in
      let all = law.taken m a (i + 1) (λ index. Data (f index)) in
      let fewer = need-grows m a (i + 1) (n - (i + 1)) in
      let e : i + 1 + (n - (i + 1)) ≡ n = omega arith in
      omega (arith, one, same, all, rw e at fewer)

-- one block is read
pub one-block : (m : Contents) (lba : ℕ) → blocks m lba 1 ≡ block m lba
unfolding blocks
one-block m lba = append-nil (block m lba)

-- no block is replaced yet
pub none-replaced : (disk : Disk) (a : ℕ) (f : ℕ → List ℕ) → disk ≡ disk_replaced disk a 0 f
unfolding remapped
none-replaced disk a f = refl

-- and one more
pub block-next : RemappingTakesWhatIsNeeded → (before now after : Disk) (out : BlocksOutFields)
    (i lba : ℕ) (bytes : List ℕ)
    → now ≡ disk_replaced before out.extent.lba i (ored_block before.contents out)
    → lba ≡ out.extent.lba + i → bytes ≡ block_at out.bytes i
    → after ≡ block_filled now lba (or_bytes (block now.contents lba) bytes)
    → after ≡ disk_replaced before out.extent.lba (i + 1) (ored_block before.contents out)
block-next law before now after out i lba bytes so_far at is e =
    let a = out.extent.lba in
    let f = ored_block before.contents out in
    let done = disk_replaced before a i f in
    e ∙ ap (λ (d : Disk). block_filled d lba (or_bytes (block d.contents lba) bytes)) so_far
    ∙ ap₂ (λ (l : ℕ) (b : List ℕ). block_filled done l (or_bytes (block done.contents l) b)) at is
    ∙ ap (λ (old : List ℕ). block_filled done (a + i) (or_bytes old (block_at out.bytes i)))
    (block-after law before.contents a i f)
    ∙ ap (λ (m : Contents). record before { contents = m }) (replaced-more law before.contents a i f)

-- ---- the ranges of the blocks

pub each-more : {X : Type 0} (f : ℕ → List X) (i : ℕ)
    → flat_map f (range_with_len 0 (i + 1)) ≡ flat_map f (range_with_len 0 i) ++ f i
each-more f i =
    let e : 0 + i ≡ i = omega arith in
    more 0 i ∙ ap (λ (k : ℕ). flat_map f (range_with_len 0 i) ++ f k) e
  where
    more : (a i : ℕ) → flat_map f (range_with_len a (i + 1)) ≡ flat_map f (range_with_len a i) ++ f (a + i)
    more a zero = let e : a + 0 ≡ a = omega arith in rw e (append-nil (f a))
    more a (suc i) =
        let e : a + suc i ≡ a + 1 + i = omega arith in
        let s : suc i + 1 ≡ suc (i + 1) = omega arith in
        rw (e, s) (ap (λ rest. f a ++ rest) (more (a + 1) i)
        ∙ sym (append_assoc (f a) (flat_map f (range_with_len (a + 1) i)) (f (a + 1 + i))))

-- a call that succeeds is charged
pub from-ok : {T E : Type 0} {P : Type 0} (r : Result T E) → is_ok r ≡ true → OnOk r P → P
from-ok (Ok t) e h = h
from-ok (Err t) e h = cc

pub no-error : {T E : Type 0} (r : Result T E) (pool used : ℕ) → used ≤ pool
    → (IsErr r ↔ (pool < used)) → is_ok r ≡ false → ⊥
no-error (Ok t) pool used fits h e = cc
no-error (Err t) pool used fits h e = let more = h.0 refl in omega (arith, fits, more)

pub charged-ok : {T E : Type 0} (r : Result T E) (pool price least : ℕ) (before after : Meter)
    → is_ok r ≡ true → ChargedOnOk r pool price least before after
    → Charged pool price least before after
charged-ok r pool price least before after e c =
    record { cost = c.cost; price = c.price; least = from-ok r e c.least }

module _ (bounds : CostBounds) where
  abbrev ChargesOne : Disk → (lba : ℕ) → Meter → Meter → Type 0
  ChargesOne disk lba before after =
      Charged disk.pool (bounds.price disk.contents lba 1) (bounds.least disk.contents lba 1) before after

  -- a block is read, and then one is written
  pub twice : (disk between : Disk) (source lba : ℕ) (over : List Range) (before first middle last : Meter)
      → between ≡ disk → ChargesOne disk source first middle → ChargesOne between lba middle last
      → IsCounted bounds disk.pool over before first
      → IsCounted bounds disk.pool
      (over ++ range disk.contents (extent source 1) ∷ range disk.contents (extent lba 1) ∷ []) before last
  twice disk between source lba over before first middle last same read write counted =
      let there = range disk.contents (extent source 1) in
      let here = range disk.contents (extent lba 1) in
      let written = subst (λ (d : Disk). ChargesOne d lba middle last) same write in
      let once = counted-more bounds disk.pool over there before first middle counted read.cost
      read.price read.least in
      subst (λ (xs : List Range). IsCounted bounds disk.pool xs before last)
      (append_assoc over (there ∷ []) (here ∷ []))
      (counted-more bounds disk.pool (over ++ there ∷ []) here before middle last once written.cost
      written.price written.least)

  pub counts : (disk between : Disk) (source lba : ℕ) (first middle last : Meter)
      → between ≡ disk → disk.pool ≤ max_pool → bounds.price disk.contents source 1 ≤ 3
      → bounds.price disk.contents lba 1 ≤ 3
      → ChargesOne disk source first middle → ChargesOne between lba middle last
      → CountsBlock first last
  counts disk between source lba first middle last same few price_read price_written read write =
      let written = subst (λ (d : Disk). ChargesOne d lba middle last) same write in
      record {
        visits = omega (
          arith,
          price_read,
          price_written,
          read.cost.visits,
          read.price,
          written.cost.visits,
          written.price,
        );
        probes = omega (arith, read.cost.probes, written.cost.probes);
        links = omega (arith, few, read.cost.links, written.cost.links);
      }

  -- before the first call nothing is counted
  pub nothing-counted : (pool : ℕ) (m : Meter) → m.counts ≡ no_counts → IsCounted bounds pool [] m m
  nothing-counted pool m e =
      let visits = ap (λ (k : Counts). k.visits) e in
      let probes = ap (λ (k : Counts). k.probes) e in
      let links = ap (λ (k : Counts). k.links) e in
      record {
        charge = record {
          visits = omega (arith, visits);
          probes = omega (arith, probes);
          links = omega (arith, links);
          visited = omega (arith, visits);
          restarts = refl;
        };
        least = omega arith;
      }

  -- with room, the blocks are counted, and then read and written in turn
  pub counted-first : (before mid after : Disk) (blocks : Extent) (each : Contents → List Range)
      (lba count : ℕ) (first between last : Meter)
      → first.counts ≡ no_counts → lba ≡ blocks.lba → count ≡ blocks.count → mid ≡ before
      → Charged before.pool (bounds.price before.contents lba count)
      (bounds.least before.contents lba count) first between
      → ((m : Meter) (over : List Range) → IsCounted bounds mid.pool over m between
      → IsCounted bounds mid.pool (over ++ each mid.contents) m last)
      → (IsOverfull after → ⊥)
      → CostsOnOk {T = Unit {0}} {E = Space} (Ok tt) bounds before.pool
      (counted_range before.contents blocks
      ∷ (if is_none (no_space after) then each before.contents else [])) first last
  counted-first before mid after blocks each lba count first between last none at many same need turn room =
      let here = counted_range before.contents blocks in
      let charged = subst (λ (n : ℕ). Charged before.pool (bounds.price before.contents blocks.lba n)
      (bounds.least before.contents blocks.lba n) first between) many
      (subst (λ (a : ℕ). Charged before.pool (bounds.price before.contents a count)
      (bounds.least before.contents a count) first between) at need) in
      let once = counted-more bounds before.pool [] here first first between
      (nothing-counted before.pool first none)
      charged.cost charged.price charged.least in
      let more = subst (λ (d : Disk). (m : Meter) (over : List Range)
      → IsCounted bounds d.pool over m between
      → IsCounted bounds d.pool (over ++ each d.contents) m last) same turn in
      let all = more first (here ∷ []) once in
      let gone_over = ap (λ found. here ∷ cond (is_none found) (each before.contents) [])
      (sym (space-unless after room)) in
      record {
        charge = subst (λ (xs : List Range). IsWithinPrice bounds before.pool xs first last) gone_over
            all.charge;
        least = subst (λ (xs : List Range). least_over bounds.least xs ≤ last.counts.visits) gone_over
            all.least;
      }

  module _ (before : Disk) (out : BlocksOutFields) where
    abbrev each : ℕ → List Range
    each n = flat_map (block_ranges before.contents out) (range_with_len 0 n)

    abbrev both : Contents → ℕ → List Range
    both m lba = range m (extent lba 1) ∷ range m (extent lba 1) ∷ []

    pub ranges-next : (now : Disk) (i lba : ℕ) (over : List Range) (first last : Meter)
        → now ≡ disk_replaced before out.extent.lba i (ored_block before.contents out)
        → lba ≡ out.extent.lba + i
        → IsCounted bounds now.pool ((over ++ each i) ++ both now.contents lba) first last
        → IsCounted bounds before.pool (over ++ each (i + 1)) first last
    ranges-next now i lba over first last so_far at counted =
        let f = ored_block before.contents out in
        let here = subst (λ (d : Disk). IsCounted bounds d.pool ((over ++ each i) ++ both d.contents lba)
        first last) so_far counted in
        let there = subst (λ (l : ℕ). IsCounted bounds before.pool
        ((over ++ each i) ++ both (replaced before.contents out.extent.lba i f) l) first last) at here in
        subst (λ (xs : List Range). IsCounted bounds before.pool xs first last)
        (append_assoc over (each i) (block_ranges before.contents out i)
        ∙ ap (λ (xs : List Range). over ++ xs) (sym (each-more (block_ranges before.contents out) i)))
        there

-- ---- blocks of a disk have their length

block-in : (capacity : ℕ) (m : Contents) (lba : ℕ) (found : Option Mapping) → get m lba ≡ found
    → IsWellFormed capacity m → length (data_in found) ≡ 512
unfolding zero_block
block-in capacity m lba None e h = refl
block-in capacity m lba (Some Anchored) e h = refl
block-in capacity m lba (Some (Data bytes)) e h = (h.each lba (Data bytes) e).1

pub length-block : (capacity : ℕ) (m : Contents) (lba : ℕ) → IsWellFormed capacity m
    → length (block m lba) ≡ 512
length-block capacity m lba h = block-in capacity m lba (get m lba) refl h
