-- A disk of maximal runs, and the facts that its calls rest on.
use Rattle.std.proofs.Common.{◌≡◌, ℕ, ◌+◌, ◌-◌, ◌<◌, ◌≤◌, ◌^◌, List, [], ◌++◌, length, take}
use Rattle.std.proofs.Common.{drop, arith, refl, sym, ap, ◌∙◌, subst, inl, inr}
use Rattle.std.proofs.Math.Pow.{pow_mono}
use Rattle.std.proofs.lemmas.Bool.{cases_lt}
use Rattle.std.proofs.lemmas.Nat.{pow-add}
use Rattle.std.proofs.lemmas.List.{length-map, nil_from_length}
use Rattle.std.specs.FinMap as map
use Rattle.std.specs.List.{count_by, range_with_len, sum_by}
use Rattle.sg_store.specs.Disk.{Contents, Disk, Mapping, IsWellFormed, used_among, remapped}
use Rattle.sg_store.specs.Disk.{max_capacity}
use Rattle.sg_pool.specs.Slots.{max_slots, Slots}
use Rattle.sg_table.specs.Draft.{Drafted, empty_draft}
use Rattle.sg_store.specs.Meter.{Meter, Costs}
use Rattle.sg_pool.specs.MappedRecords.{mapping_in, contents_of}
use Rattle.sg_table.specs.Records.{IsSorted}
use Rattle.sg_table.specs.Search.{CostsSearch}
use Rattle.sg_table.specs.Table.{Table, visited, probed}
use Rattle.sg_table.specs.declared.run.Run.{Run}
use Rattle.sg_block_map.specs.Metering.{SearchesAndVisits}
use Rattle.sg_block_map.specs.Gathering.{starts_in, overlap, AreGathered, HaveRoom, end_index}
use Rattle.sg_block_map.specs.MaximalRuns.{runs, meet, blocks_near}
use Rattle.sg_block_map.specs.RunCost.{block_price, CostsRuns, CostsRange}
use Rattle.sg_block_map.specs.Runs.{address_run, expanded, AreRuns, chained_contents, blocks_of}
use Rattle.sg_block_map.specs.State.{disk_at, meter_at}
use Rattle.sg_block_map.specs.Walking.{AreAhead}
use Rattle.sg_store.proofs.DiskLemmas.{len-remapped}
use Rattle.sg_table.proofs.HalvingLemmas.{probes-le}
use Rattle.sg_pool.proofs.ConsistencyLemmas.{consistent-empty}
use Rattle.sg_pool.proofs.MappedLemmas.{len-contents_by}
use Rattle.sg_store.proofs.WellFormedLemmas.{well_formed-empty}
use Rattle.sg_block_map.proofs.OrderLemmas.{maximal-sorted}
use Rattle.sg_block_map.proofs.RunSlotLemmas.{runs-fit, gathered-blocks, length-expanded}
use Rattle.sg_block_map.proofs.ExpandedLemmas.{expanded-none}
use Rattle.sg_block_map.proofs.FinishLemmas.{gathered-ahead}
use Rattle.sg_block_map.proofs.MaximalLemmas.{starts-meet, runs-addresses, meet-gathered}
use Rattle.sg_block_map.proofs.MaximalLemmas.{near-gathered, none-meet}
use Rattle.sg_block_map.proofs.OverlapLemmas.{mapped-overlap, mapped-gathered}

pub runs-sorted : (rs : List Run) (slots : Slots) (room : ℕ) → AreRuns rs slots room → IsSorted rs
runs-sorted rs slots room h = maximal-sorted rs 0 (max_capacity + 1) h.maximal

-- the list of gathered runs has room for all records
pub have-room : (table : Table) (slots : Slots) (gathered : Drafted)
    → AreRuns table.records slots table.room → table.room ≤ max_slots
    → gathered ≡ empty_draft table.room → HaveRoom table gathered
have-room table slots gathered h fits empty = record {
  fits = runs-fit table.records slots table.room h;
  table_size = fits;
  room = ap (λ (d : Drafted). d.room) empty;
}

-- a disk without mapped blocks, whose slots are taken in ascending order
pub no-runs : (slots : Slots) (room : ℕ) → length slots.blocks ≡ room
    → slots.free ≡ range_with_len 0 room → length slots.next ≡ room → AreRuns [] slots room
no-runs slots room blocks free next = record {
  maximal = λ kind. omega arith;
  chained = tt;
  consistent = rw (expanded-none slots.next)
      (consistent-empty slots.blocks slots.free room blocks free);
  links = next;
}

-- if no address is mapped, each slot is free
none-mapped : (slots : Slots) (room : ℕ) → AreRuns [] slots room → length slots.free ≡ room
none-mapped slots room h = omega (arith, h.consistent.count, ap length (expanded-none slots.next))

pub all-free : (rs : List Run) (slots : Slots) (room : ℕ) → AreRuns rs slots room → length rs ≡ 0
    → length slots.free ≡ length slots.next
all-free rs slots room h none =
    let e = nil_from_length rs none in omega (arith, none-mapped slots room (rw e at h), h.links)

pub runs-renewed : (rs : List Run) (slots : Slots) (room : ℕ) → AreRuns rs slots room → length rs ≡ 0
    → AreRuns rs (record slots { free = range_with_len 0 (length slots.next) }) room
runs-renewed rs slots room h none =
    let e = nil_from_length rs none in
    rw (e, h.links)
    (no-runs (record slots { free = range_with_len 0 room }) room h.consistent.pool refl h.links)

pub no-contents : (capacity : ℕ) (slots : Slots) → IsWellFormed capacity (chained_contents [] slots)
no-contents capacity slots = rw (expanded-none slots.next) (well_formed-empty capacity)

pub new-contents : (slots : Slots) → chained_contents [] slots ≡ map.empty
new-contents slots = ap (λ xs. contents_of xs slots.blocks) (expanded-none slots.next)

-- an address gets a whole block, or none
-- the number of mapped addresses
pub size : (rs : List Run) (slots : Slots) (room : ℕ) → AreRuns rs slots room
    → map.len (chained_contents rs slots) + length slots.free ≡ room
size rs slots room h = let all = len-contents_by (mapping_in slots.blocks)
    (expanded slots.next rs) h.consistent.sorted in omega (arith, h.consistent.count)

pub size-replaced : (rs : List Run) (slots : Slots) (room lba count : ℕ) (f : ℕ → Mapping)
    → AreRuns rs slots room
    → map.len (remapped (chained_contents rs slots) lba count f) + length slots.free + used_among
    (chained_contents rs slots) lba count ≡ room + count
size-replaced rs slots room lba count f h = let all = size rs slots room h in
    let more = len-remapped (chained_contents rs slots) lba count f in omega arith

-- the runs that were gathered
module _ (rs : List Run) (slots : Slots) (room : ℕ) (gathered : Drafted) (lba count : ℕ)
    (h : AreRuns rs slots room) (g : AreGathered rs gathered lba (lba + count) (max_capacity + 1))
  where
    parted : AreRuns (take gathered.from rs ++ (gathered.records ++ drop (end_index gathered) rs))
        slots room
    parted = subst (λ zs. AreRuns zs slots room) (sym g.same) h

    pub runs-ahead : AreAhead slots.next (length slots.next) 0 gathered.records
    runs-ahead = gathered-ahead (take gathered.from rs) gathered.records
        (drop (end_index gathered) rs) slots room parted

    pub gathered-length : length (expanded slots.next gathered.records) ≤ room
    gathered-length = let few = gathered-blocks rs gathered slots room lba (lba + count)
        (max_capacity + 1) h g in omega (arith, length-expanded slots.next gathered.records)

    pub gathered-mapped : used_among (chained_contents rs slots) lba count ≡
        sum_by (overlap lba (lba + count)) gathered.records
    gathered-mapped = mapped-gathered rs gathered slots lba count (max_capacity + 1) g
        ∙ mapped-overlap slots.next gathered.records (mapping_in slots.blocks) 0
        max_capacity lba count runs-ahead.apart

    -- the runs that meet the range were gathered
    pub gathered-meet : meet (chained_contents rs slots) lba count ≤ length gathered.records
    gathered-meet = meet-gathered slots.next rs slots.blocks gathered lba count
        (max_capacity + 1) h.maximal g

    pub gathered-near : blocks_of gathered.records ≤ blocks_near (chained_contents rs slots) lba count
    gathered-near = near-gathered slots.next rs slots.blocks gathered lba count
        (max_capacity + 1) h.maximal g

-- a search of a count that has `digits` binary digits takes at most one probe more
searched : (probes count digits : ℕ) → CostsSearch count probes → count < 2 ^ digits
    → probes ≤ digits + 1
searched probes count digits is lt = elim (cases_lt (digits + 1) probes) [
  | inl more ↦
      let rises : 2 ^ (digits + 2) ≤ 2 ^ probes = pow_mono (omega (arith, more)) in
      let most = is.most_probes in
      absurd (omega (arith, rises, pow-add 2 digits 2))
  | inr le ↦ le
]

-- the cost of a call, by the cost of gathering the runs and going over them
module _ (rs : List Run) (slots after_slots : Slots) (room lba count : ℕ) (before after : Table)
    (h : AreRuns rs slots room) (same : before.records ≡ rs)
    (table : after ≡ visited (probed before (after.probes - before.probes))
    (after.total - before.total)) (rise : before.probes ≤ after.probes)
    (search : CostsSearch (length before.records) (after.probes - before.probes))
    (least : before.total ≤ after.total) where
  pub gathered-costs : room ≤ max_slots → slots.links ≤ after_slots.links
      → after_slots.links ≤ slots.links + room
      → Costs room (meter_at before slots) (meter_at after after_slots)
  gathered-costs small links_rise links =
      let visits = ap (λ (t : Table). t.visits) table in
      let restarts = ap (λ (t : Table). t.restarts) table in
      let fit = runs-fit rs slots room h in
      let len = ap length same in
      let probes = probes-le (after.probes - before.probes) (length before.records) search.most_probes
      (omega arith) in
      record {
        visits = omega arith;
        visits_rise = least;
        probes_rise = rise;
        probes = omega arith;
        links_rise = links_rise;
        links = links;
        restarts = restarts;
      }

  pub gathered-price : after.total ≤ before.total + count_by
      (starts_in lba (lba + count)) before.records + 2
      → after.total ≤ before.total + block_price (chained_contents rs slots) lba count
  gathered-price most =
      let meets = starts-meet slots.next rs slots.blocks 0
      (max_capacity + 1) lba count h.maximal in
      let begun = ap (λ xs. count_by (starts_in lba (lba + count)) xs) same in
      omega arith

  pub gathered-runs : after_slots.links ≤ slots.links + blocks_near
      (chained_contents rs slots) lba count → CostsRuns (chained_contents rs slots) lba count
      (meter_at before slots) (meter_at after after_slots)
  gathered-runs links =
      let len = ap length (runs-addresses slots.next rs slots.blocks 0
      (max_capacity + 1) h.maximal) ∙ length-map rs address_run
      ∙ ap length (sym same) in
      record {
        probes = λ digits lt. let p = searched (after.probes - before.probes)
            (length before.records) digits search (omega (arith, len, lt)) in
            omega (arith, p, rise);
        links = links;
      }

-- a call over no address
pub nothing-runs : (contents : Contents) (lba count : ℕ) (meter : Meter)
    → CostsRuns contents lba count meter meter
nothing-runs contents lba count meter = record {
  probes = λ digits lt. omega arith;
  links =
      omega arith;
}

pub nothing-meets : (contents : Contents) (lba count : ℕ) → count ≡ 0 → meet contents lba count ≡ 0
unfolding meet
nothing-meets contents lba count e = none-meet (runs contents) lba count e

-- the whole cost of a call that gathers the runs near its range, and follows their links
pub gathered-range : (before after : Table) (slots after_slots : Slots) (capacity lba count : ℕ)
    (gathered : Drafted) → AreRuns before.records slots before.room
    → AreGathered before.records gathered lba (lba + count) (max_capacity + 1)
    → before.room ≤ max_slots
    → SearchesAndVisits (length gathered.records)
    (count_by (starts_in lba (lba + count)) before.records + 2) before after
    → slots.links ≤ after_slots.links
    → after_slots.links ≤ slots.links + blocks_of gathered.records
    → CostsRange (disk_at capacity before slots) lba count
    (meter_at before slots) (meter_at after after_slots)
gathered-range before after slots after_slots capacity lba count gathered h g small counted
    links_rise links =
    let is = counted.table in
    let rise = counted.probes_rise in
    let search = counted.search in
    let least = counted.between.fewest_visits in
    let most : after.total
    ≤ before.total + count_by (starts_in lba (lba + count)) before.records + 2 =
    omega (arith, counted.between.most_visits) in
    let rs = before.records in
    let room = before.room in
    let total : before.total ≤ after.total = omega (arith, least) in
    let blocks = gathered-blocks rs gathered slots room lba (lba + count) (max_capacity + 1) h g in
    let near = gathered-near rs slots room gathered lba count h g in
    let met = gathered-meet rs slots room gathered lba count h g in
    record {
      charge = record {
        cost = gathered-costs rs slots after_slots room lba count before after h refl is rise search
            total small links_rise (omega (arith, blocks, links));
        price = gathered-price rs slots after_slots room lba count before after h refl is rise
            search total most;
        least = omega (arith, least, met);
      };
      runs = gathered-runs rs slots after_slots room lba count before after h refl is rise search
          total (omega (arith, near, links));
    }

-- the cost of a call over no address
pub nothing-costs : (disk : Disk) (lba count : ℕ) (meter : Meter) → count ≡ 0
    → CostsRange disk lba count meter meter
nothing-costs disk lba count meter e = record {
  charge = record {
    cost = record {
      visits = refl;
      visits_rise = omega arith;
      probes_rise = omega arith;
      probes = omega arith;
      links_rise = omega arith;
      links = omega arith;
      restarts = refl;
    };
    price = omega arith;
    least = omega (arith, nothing-meets disk.contents lba count e);
  };
  runs = nothing-runs disk.contents lba count meter;
}
