-- The cost of ranges, one after the other.
use Rattle.std.proofs.Common.{◌≡◌, ◌≤◌, ◌<◌, ℕ, ◌+◌, ◌*◌, List, [], ◌∷◌, ◌++◌, length}
use Rattle.std.proofs.Common.{length-append, refl, sym, subst, ap, ◌∙◌, arith, append_assoc, true, false}
use Rattle.std.proofs.Common.{Bool, cond, take, get_or}
use Rattle.std.proofs.lemmas.List.{take_more}
use Rattle.std.proofs.Math.Nat.{mul-le-mul}
use Rattle.std.proofs.lemmas.List.{append-nil, length-map, map-append}
use Rattle.std.specs.Prelude.{is_none, map}
use Rattle.sg_store.specs.Meter.{Costs, Meter, restarted}
use Rattle.sg_store.specs.declared.store.Counts.{Counts}
use Rattle.sg_target.specs.Anchoring.{counted, counted_ranges}
use Rattle.sg_target.specs.Charge.{Cost, CostBounds, IsCharged, IsCounted, IsWithinPrice}
use Rattle.sg_target.specs.Charge.{least_over, sum_over}
use Rattle.sg_target.specs.ProvisioningCommands.{Change, changed_in_turn}
use Rattle.sg_target.specs.Ranges.{Range, anchoring_ranges, counted_range, range, ranges_in_turn}
use Rattle.sg_target.specs.declared.reply.Reply.{Reply}
use Rattle.sg_target.specs.declared.reply.Status.TheVariants.{Good}
use Rattle.sg_store.specs.Disk.{Contents, Disk, IsOverfull, anchored}
use Rattle.sg_target.proofs.Space.{nothing-left, space-unless}
use Rattle.sg_target.proofs.InTurnLemmas.{changed-append, ranges-more}
use Rattle.sg_target.specs.Joining.{AreJoined, IsSubadditive, cost_of, range_of}
use Rattle.sg_target.specs.declared.joining.AddressRange.{AddressRange}
use Rattle.sg_wire.specs.declared.extent.Extent.{Extent}

sum-append : (cost : Cost) (xs ys : List Range)
    → sum_over cost (xs ++ ys) ≡ sum_over cost xs + sum_over cost ys
sum-append cost [] ys = omega arith
sum-append cost (x ∷ xs) ys = let rest = sum-append cost xs ys in omega arith

least-append : (cost : Cost) (xs ys : List Range)
    → least_over cost (xs ++ ys) ≡ least_over cost xs + least_over cost ys
least-append cost [] ys = omega arith
least-append cost (x ∷ xs) ys = let rest = least-append cost xs ys in omega arith

at_most : (b : Bool) (n : ℕ) → cond b 0 n ≤ n
at_most true n = omega arith
at_most false n = omega arith

-- one range more
pub counted-more : (bounds : CostBounds) (pool : ℕ) (over : List Range) (last : Range)
    (before between after : Meter) → IsCounted bounds pool over before between
    → Costs pool between after
    → after.total ≤ between.total + bounds.price last.contents last.lba last.count
    → between.total + bounds.least last.contents last.lba last.count ≤ after.total
    → IsCounted bounds pool (over ++ last ∷ []) before after
counted-more bounds pool over last before between after so_far costs price least =
    let prices = sum-append bounds.price over (last ∷ []) in
    let leasts = least-append bounds.least over (last ∷ []) in
    let one = at_most last.counted (bounds.least last.contents last.lba last.count) in
    let longer = length-append over (last ∷ []) in
    let c = so_far.charge in
    record {
      charge = record {
        visits = omega (arith, c.visits, c.visited, costs.visits, costs.visits_rise);
        probes = rw longer (omega (arith, c.probes, costs.probes));
        links = rw longer (omega (arith, c.links, costs.links));
        visited = omega (arith, c.visited, costs.visits, costs.visits_rise);
        restarts = costs.restarts ∙ c.restarts;
      };
      least = omega (arith, so_far.least, c.visited, costs.visits);
    }

pub counted-ranges-more : (m : Contents) (ranges : List AddressRange) (last : AddressRange)
    → counted_ranges m (ranges ++ last ∷ []) ≡ counted_ranges m ranges ++ counted m last ∷ []
counted-ranges-more m ranges last = map-append (counted m) ranges (last ∷ [])

-- the next range, whose slots are counted
pub counted-next : (bounds : CostBounds) (disk now : Disk) (ranges : List AddressRange) (i : ℕ)
    (d : AddressRange) → i < length ranges → (before mid after : Meter) → now ≡ disk
    → IsCounted bounds disk.pool (counted_ranges disk.contents (take i ranges)) before mid
    → Costs now.pool mid after
    → after.total ≤ mid.total
    + bounds.price now.contents (get_or ranges i d).lba (get_or ranges i d).count
    → mid.total + bounds.least now.contents (get_or ranges i d).lba (get_or ranges i d).count
    ≤ after.total
    → IsCounted bounds disk.pool (counted_ranges disk.contents (take (i + 1) ranges)) before after
counted-next bounds disk now ranges i d here before mid after same so_far costs price least =
    let next = get_or ranges i d in
    rw (take_more ranges i d here, counted-ranges-more disk.contents (take i ranges) next)
    (counted-more bounds disk.pool (counted_ranges disk.contents (take i ranges))
    (counted disk.contents next) before mid after so_far
    (subst (λ (x : Disk). Costs x.pool mid after) same costs)
    (subst (λ (x : Disk). after.total ≤ mid.total + bounds.price x.contents next.lba next.count) same
    price)
    (subst (λ (x : Disk). mid.total + bounds.least x.contents next.lba next.count ≤ after.total) same
    least))

-- the next extent, which is changed
module _ (change : Change) (extents : List Extent) (i : ℕ) (d : Extent) (here : i < length extents)
    (before now : Disk) (so_far : now ≡
    record before { contents = changed_in_turn change before.contents (take i extents) }) where
  abbrev next : Extent
  next = get_or extents i d

  pub disk-next : (after : Disk)
      → after ≡ record now { contents = change now.contents next.lba next.count }
      → after ≡ record before { contents = changed_in_turn change before.contents (take (i + 1) extents) }
  disk-next after e =
      e ∙ ap (λ (x : Disk). record x { contents = change x.contents next.lba next.count }) so_far
      ∙ ap (λ (m : Contents). record before { contents = m })
      (sym (changed-append change before.contents (take i extents) (next ∷ []))
      ∙ ap (changed_in_turn change before.contents) (sym (take_more extents i d here)))

  pub turn-next : (bounds : CostBounds) (over : List Range) (first mid after : Meter)
      → IsCounted bounds before.pool (over ++ ranges_in_turn change before.contents (take i extents))
      first mid
      → Costs now.pool mid after
      → after.total ≤ mid.total + bounds.price now.contents next.lba next.count
      → mid.total + bounds.least now.contents next.lba next.count ≤ after.total
      → IsCounted bounds before.pool
      (over ++ ranges_in_turn change before.contents (take (i + 1) extents)) first after
  turn-next bounds over first mid after counted costs price least =
      let turn : List Range = ranges_in_turn change before.contents (take i extents) in
      let last = range (changed_in_turn change before.contents (take i extents)) next in
      rw (take_more extents i d here, ranges-more change before.contents (take i extents) next)
      (subst (λ (xs : List Range). IsCounted bounds before.pool xs first after)
      (append_assoc over turn (last ∷ []))
      (counted-more bounds before.pool (over ++ turn) last first mid after counted
      (subst (λ (x : Disk). Costs x.pool mid after) so_far costs)
      (subst (λ (x : Disk). after.total ≤ mid.total + bounds.price x.contents next.lba next.count)
      so_far price)
      (subst (λ (x : Disk). mid.total + bounds.least x.contents next.lba next.count ≤ after.total)
      so_far least)))

-- ---- the ranges of an anchoring

module _ (disk : Disk) (extents : List Extent) where
  abbrev after_all : Disk
  after_all = record disk { contents = changed_in_turn anchored disk.contents extents }

  abbrev counted_and : (room : Bool) → List Range
  counted_and room =
      map (counted_range disk.contents) extents
      ++ cond room (ranges_in_turn anchored disk.contents extents) []

  -- without room, the extents are only counted
  pub without-room : IsOverfull after_all
      → anchoring_ranges disk extents ≡ map (counted_range disk.contents) extents
  without-room h =
      ap counted_and (nothing-left after_all h) ∙ append-nil (map (counted_range disk.contents) extents)

  -- with room, they are gone over again
  pub with-room : (IsOverfull after_all → ⊥)
      → anchoring_ranges disk extents
      ≡ map (counted_range disk.contents) extents ++ ranges_in_turn anchored disk.contents extents
  with-room h = ap (λ found. counted_and (is_none found)) (space-unless after_all h)

-- ---- the ranges as they were sent, in place of the joined ones

-- (they are the same ranges)
counted-sent : (m : Contents) (extents : List Extent)
    → map (counted_range m) extents ≡ counted_ranges m (map range_of extents)
counted-sent m [] = refl
counted-sent m (e ∷ es) = ap (λ (over : List Range). counted_range m e ∷ over) (counted-sent m es)

sum-counted : (cost : Cost) (m : Contents) (ranges : List AddressRange)
    → sum_over cost (counted_ranges m ranges) ≡ cost_of (cost m) ranges
sum-counted cost m [] = refl
sum-counted cost m (r ∷ rs) = let rest = sum-counted cost m rs in omega arith

least-counted : (cost : Cost) (m : Contents) (ranges : List AddressRange)
    → least_over cost (counted_ranges m ranges) ≡ 0
least-counted cost m [] = refl
least-counted cost m (r ∷ rs) = let rest = least-counted cost m rs in omega arith

module _ (bounds : CostBounds) (pool : ℕ) (m : Contents) (extents : List Extent)
    (joined : List AddressRange) (j : AreJoined (map range_of extents) joined)
    (law : IsSubadditive (bounds.price m)) (before after : Meter) where
  abbrev sent : List Range
  sent = map (counted_range m) extents

  abbrev turn : List Range
  turn = ranges_in_turn anchored m extents

  cheaper : sum_over bounds.price (counted_ranges m joined) ≤ sum_over bounds.price sent
  cheaper = omega (
    arith,
    sum-counted bounds.price m joined,
    ap (sum_over bounds.price) (counted-sent m extents),
    sum-counted bounds.price m (map range_of extents),
    j.cheaper (bounds.price m) law,
  )

  shorter : length (counted_ranges m joined) ≤ length sent
  shorter = omega (
    arith,
    length-map joined (counted m),
    length-map (map range_of extents) (counted m),
    ap (λ (over : List Range). length over) (counted-sent m extents),
    j.count,
  )

  -- the counts over some are within the price of others if they cost no more and are no more
  within : (some over : List Range) → sum_over bounds.price some ≤ sum_over bounds.price over
      → length some ≤ length over → IsWithinPrice bounds pool some before after
      → IsWithinPrice bounds pool over before after
  within some over price count c =
      let links : pool * length some ≤ pool * length over =
      mul-le-mul {m₂ = length over} (omega arith) count in
      record {
        visits = omega (arith, c.visits, price);
        probes = omega (arith, c.probes, count);
        links = omega (arith, c.links, links);
        visited = c.visited;
        restarts = c.restarts;
      }

  -- without room, only the count was done
  pub counted-charged : IsCounted bounds pool (counted_ranges m joined) before after
      → IsWithinPrice bounds pool sent before after
  counted-charged c = within (counted_ranges m joined) sent cheaper shorter c.charge

  -- otherwise each range was gone over again
  pub all-charged : IsCounted bounds pool (counted_ranges m joined ++ turn) before after
      → IsWithinPrice bounds pool (sent ++ turn) before after
  all-charged c =
      let price = sum-append bounds.price sent turn in
      let price' = sum-append bounds.price (counted_ranges m joined) turn in
      let count = length-append sent turn in
      let count' = length-append (counted_ranges m joined) turn in
      within (counted_ranges m joined ++ turn) (sent ++ turn) (omega (arith, cheaper))
      (omega (arith, shorter)) c.charge

  pub all-least : IsCounted bounds pool (counted_ranges m joined ++ turn) before after
      → least_over bounds.least (sent ++ turn) ≤ after.counts.visits
  all-least c = omega (
    arith,
    c.least,
    least-append bounds.least sent turn,
    least-append bounds.least (counted_ranges m joined) turn,
    least-counted bounds.least m joined,
    ap (least_over bounds.least) (counted-sent m extents),
    least-counted bounds.least m (map range_of extents),
  )

-- what was counted over some ranges since a restart is charged
pub charged : (bounds : CostBounds) (pool : ℕ) (over : List Range) (before after : Meter) (reply : Reply)
    → 0 < length over → IsWithinPrice bounds pool over (restarted before) after
    → (reply.status ≡ Good → least_over bounds.least over ≤ after.counts.visits)
    → reply.counts ≡ after.counts → IsCharged bounds pool over before after reply
charged bounds pool [] before after reply some c least same = absurd (omega arith)
charged bounds pool (first ∷ rest) before after reply some c least same =
    let visits = ap (λ (k : Counts). k.visits) same in
    let probes = ap (λ (k : Counts). k.probes) same in
    let links = ap (λ (k : Counts). k.links) same in
    record {
      visits = omega (arith, c.visits, visits);
      probes = rw probes c.probes;
      links = rw links c.links;
      least = λ good. omega (arith, least good, visits);
      visited = omega (arith, c.visited, visits);
      counted = λ any. same;
      restarts = c.restarts;
      idle = λ none. absurd (omega (arith, ap (λ (over : List Range). length over) none));
    }
