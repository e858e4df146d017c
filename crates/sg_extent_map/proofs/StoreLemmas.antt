-- The store: its size, and the cost of its calls.
use Rattle.std.proofs.Common.{◌≡◌, ℕ, ◌+◌, ◌≤◌, List, [], ◌∷◌, length, arith, ap, ◌∙◌}
use Rattle.std.specs.FinMap as map
use Rattle.std.specs.Prelude.{min}
use Rattle.sg_store.specs.Disk.{Mapping, max_capacity, need, remapped, used_among}
use Rattle.sg_store.specs.Meter.{Charged, Costs}
use Rattle.sg_store.proofs.DiskLemmas.{len-remapped}
use Rattle.sg_store.proofs.NeedLemmas.{need-used}
use Rattle.sg_table.specs.Draft.{Drafted}
use Rattle.sg_table.specs.Table.{Table}
use Rattle.sg_table.specs.declared.run.Run.{Run}
use Rattle.sg_pool.specs.MappedRecords.{contents_of, mapping_in}
use Rattle.sg_pool.specs.Slots.{UnlinkedSlots}
use Rattle.sg_pool.proofs.MappedLemmas.{len-contents_by}
use Rattle.sg_extent_map.specs.ExtentCost.{extent_least, extent_price}
use Rattle.sg_extent_map.specs.Extents.{singles, AreExtents}
use Rattle.sg_extent_map.specs.Gathering.{AreGathered, SearchesAndVisits, overlaps}
use Rattle.sg_extent_map.specs.State.{meter_at}
use Rattle.sg_extent_map.proofs.OverlapLemmas.{used-gathered}
use Rattle.sg_extent_map.proofs.SinglesLemmas.{length-singles}
use Rattle.sg_extent_map.proofs.WriteLemmas.{gathered-ahead}

-- there are no more extents than there is room for
pub extents-fit : (rs : List Run) (slots : UnlinkedSlots) (room : ℕ) → AreExtents rs slots room
    → length rs ≤ room
extents-fit rs slots room h =
    omega (arith, length-singles room rs h.extents, h.consistent.count)

-- the number of used addresses, and with a range remapped
pub size : (rs : List Run) (slots : UnlinkedSlots) (room : ℕ) → AreExtents rs slots room
    → map.len (contents_of (singles rs) slots.blocks) + length slots.free ≡ room
size rs slots room h =
    let all = len-contents_by (mapping_in slots.blocks) (singles rs) h.consistent.sorted in
    omega (arith, all, h.consistent.count)

pub size-after : (rs : List Run) (slots : UnlinkedSlots) (room lba count : ℕ) (f : ℕ → Mapping)
    → AreExtents rs slots room
    → map.len (remapped (contents_of (singles rs) slots.blocks) lba count f) + length slots.free
    + used_among (contents_of (singles rs) slots.blocks) lba count ≡ room + count
size-after rs slots room lba count f h =
    let len = len-remapped (contents_of (singles rs) slots.blocks) lba count f in
    omega (arith, len, size rs slots room h)

-- ---- What was gathered for a range

no-overlaps : (low high : ℕ) (runs : List Run) → min 1 (overlaps low high runs) ≤ length runs
no-overlaps low high [] = omega arith
no-overlaps low high (run ∷ runs) = omega arith

module _ (rs : List Run) (gathered : Drafted) (slots : UnlinkedSlots) (room lba count : ℕ)
    (h : AreExtents rs slots room) (g : AreGathered rs gathered lba (lba + count)) where
  pub used-there : used_among (contents_of (singles rs) slots.blocks) lba count
      ≡ overlaps lba (lba + count) gathered.records
  used-there = used-gathered rs gathered slots lba count 0 max_capacity g
      (gathered-ahead rs gathered slots room lba (lba + count) h g).apart

  pub need-there : overlaps lba (lba + count) gathered.records
      + need (contents_of (singles rs) slots.blocks) lba count ≡ count
  need-there = omega (arith, used-there, need-used (contents_of (singles rs) slots.blocks) lba count)

  module _ (pool : ℕ) (t u : Table) (v : SearchesAndVisits (length gathered.records) t u)
      (w : Table) (same : w ≡ record u { records = w.records; moved = w.moved }) where
    total : u.total ≡ t.total + length gathered.records
    total = ap (λ (x : Table). x.total) v.table

    total' : w.total ≡ u.total
    total' = ap (λ (x : Table). x.total) same

    pub gathered-cost : Costs pool (meter_at t) (meter_at w)
    gathered-cost =
        let visits = ap (λ (x : Table). x.visits) v.table in
        let visits' = ap (λ (x : Table). x.visits) same in
        let probes' = ap (λ (x : Table). x.probes) same in
        record {
          visits = omega (arith, total, total', visits, visits');
          visits_rise = omega (arith, total, total');
          probes_rise = omega (arith, probes', v.probes_rise);
          probes = omega (arith, probes', v.search);
          links_rise = omega arith;
          links = omega arith;
          restarts = ap (λ (x : Table). x.restarts) same ∙ ap (λ (x : Table). x.restarts) v.table;
        }

    pub gathered-price : w.total ≤ t.total + extent_price (contents_of (singles rs) slots.blocks) lba count
    gathered-price = omega (arith, total, total', used-there, g.few)

    pub gathered-least : t.total + extent_least (contents_of (singles rs) slots.blocks) lba count
        ≤ w.total
    gathered-least = omega (
      arith,
      total,
      total',
      used-there,
      no-overlaps lba (lba + count) gathered.records,
    )

    pub gathered-charged : Charged pool
        (extent_price (contents_of (singles rs) slots.blocks) lba count)
        (extent_least (contents_of (singles rs) slots.blocks) lba count) (meter_at t) (meter_at w)
    gathered-charged =
        record { cost = gathered-cost; price = gathered-price; least = gathered-least }
