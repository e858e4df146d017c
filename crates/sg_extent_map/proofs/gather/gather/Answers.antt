use Rattle.std.proofs.Common.{◌≡◌, ◌+◌, ◌-◌, ◌<◌, ◌≤◌, ◌∷◌, length, [], get_or, arith}
use Rattle.std.proofs.Common.{refl, sym, ap, ◌∙◌, length-append, inl, inr}
use Rattle.std.proofs.lemmas.Bool.{cases_lt}
use Rattle.sg_store.specs.Disk.{max_capacity}
use Rattle.sg_table.specs.Draft.{Drafted}
use Rattle.sg_table.specs.Table.{Table, visited, probed}
use Rattle.sg_table.specs.declared.run.Run.{Run}
use Rattle.sg_table.proofs.RecordLemmas.{start_of-read}
use Rattle.sg_table.proofs.SpliceLemmas.{same-splice}
use Rattle.sg_table.proofs.TableLemmas.{visited-more}
use Rattle.sg_extent_map.specs.Gathering.{overlaps}
use Rattle.sg_extent_map.proofs.AddressLemmas.{not_empty}
use Rattle.sg_pool.proofs.RisingLemmas.{apart-sorted}
use Rattle.sg_extent_map.proofs.GatheringLemmas.{all-gathered, overlaps-last}
use Rattle.sg_extent_map.proofs.gather.gather.Goals as goal

pub lower_bound-requires-clause-sorted : goal.lower_bound-requires-clause-sorted
lower_bound-requires-clause-sorted c =
    apart-sorted c.args.table.now.records 0 max_capacity c.requires.apart

pub returns-then-run-high-clause-gathered : goal.returns-then-run-high-clause-gathered
returns-then-run-high-clause-gathered c =
    let rs = c.args.table.now.records in
    let inv = c.loop-at.invariant in
    let at = c.loop-at.at in
    let from = c.saturating_sub-from.result in
    let run = c.visit-run.result in
    let records = ap (λ (t : Table). t.records) inv.table in
    let low : at < length rs = omega (
      arith,
      c.loop-at-test.true,
      c.count-at-end.ensures.value,
      ap (λ (t : Table). length t.records) c.lower_bound.ensures.table,
      c.loop-at.auto.at-end,
    ) in
    let read : run ≡ get_or rs at run = sym (rw records at c.visit-run.ensures.value) in
    let start = start_of-read rs at run low read in
    let drafted = ap (λ (d : Drafted). d.records) c.push.ensures in
    let begins = ap (λ (d : Drafted). d.from) c.push.ensures ∙ inv.from in
    let len = ap length drafted ∙ length-append c.loop-at.gathered.records (run ∷ []) in
    let sum = ap (overlaps c.args.low c.args.high) drafted
    ∙ overlaps-last c.args.low c.args.high c.loop-at.gathered.records run in
    let sorted = apart-sorted rs 0 max_capacity c.requires.apart in
    all-gathered rs c.push.new.self c.lower_bound.result from (at + 1) c.args.low c.args.high
    c.requires.apart c.lower_bound.ensures.index c.saturating_sub-from.ensures begins
    (omega (arith, begins, len, inv.reached)) (omega arith) c.requires.range.0 c.requires.range.1
    (rw drafted (same-splice rs c.loop-at.gathered.records from at run low read ∙ inv.same))
    (λ lt. let up = sorted at (at + 1) (omega arith) lt in
    omega (arith, start, c.if-run-high.true, up))
    (λ _. omega (arith, c.loop-at.auto.at))
    (λ _. (run, c.loop-at.gathered.records, drafted, c.if-run-high.true))
    (omega (arith, len, sum, inv.few))

pub loop-at-preserved : goal.loop-at-preserved
loop-at-preserved c =
    let rs = c.args.table.now.records in
    let inv = c.loop-at.invariant in
    let at = c.loop-at.at in
    let from = c.saturating_sub-from.result in
    let run = c.visit-run.result in
    let records = ap (λ (t : Table). t.records) inv.table in
    let low : at < length rs = omega (
      arith,
      c.loop-at-test.true,
      c.count-at-end.ensures.value,
      ap (λ (t : Table). length t.records) c.lower_bound.ensures.table,
      c.loop-at.auto.at-end,
    ) in
    let read : run ≡ get_or rs at run = sym (rw records at c.visit-run.ensures.value) in
    let start = start_of-read rs at run low read in
    let drafted = ap (λ (d : Drafted). d.records) c.push.ensures in
    let len = ap length drafted ∙ length-append c.loop-at.gathered.records (run ∷ []) in
    let sum = ap (overlaps c.args.low c.args.high) drafted
    ∙ overlaps-last c.args.low c.args.high c.loop-at.gathered.records run in
    let some = not_empty rs 0 max_capacity at run c.requires.apart low in
    let count = ap (λ (r : Run). r.count) read in
    let probes = ap (λ (t : Table). t.probes) c.visit-run.ensures.table in
    let order = c.requires.range.0 in
    let few : length c.push.new.self.records ≤ overlaps c.args.low c.args.high c.push.new.self.records
    + 1 = elim (cases_lt from at) [
      | inl later ↦
          let up = c.lower_bound.ensures.index.after at (omega (arith, c.saturating_sub-from.ensures)) low
          in omega (arith, len, sum, inv.few, up, start, count, some, c.if-run-high.false)
      | inr first ↦ omega (arith, len, inv.reached)
    ] in
    record {
      from = ap (λ (d : Drafted). d.from) c.push.ensures ∙ inv.from;
      reached = omega (arith, len, inv.reached);
      same = rw drafted (same-splice rs c.loop-at.gathered.records from at run low read ∙ inv.same);
      few = few;
      room = ap (λ (d : Drafted). d.room) c.push.ensures ∙ inv.room;
      table = c.visit-run.ensures.table ∙ ap (λ t. visited t 1) inv.table
          ∙ visited-more (probed c.args.table.now (c.loop-at.table.probes
          - c.args.table.now.probes)) (length c.loop-at.gathered.records) 1
          ∙ rw (probes, len) refl;
      rise = omega (arith, probes, inv.rise);
      search = omega (arith, probes, inv.search);
    }

pub returns-clause-gathered : goal.returns-clause-gathered
returns-clause-gathered c =
    let rs = c.args.table.now.records in
    let inv = c.loop-at.invariant in
    let at = c.loop-at.at in
    let count = c.count-at-end.ensures.value in
    let same = ap (λ (t : Table). length t.records) c.lower_bound.ensures.table in
    let up = c.lower_bound.ensures.index.within in
    let end : at ≡ length rs = omega (
      arith,
      c.loop-at-test.false,
      c.loop-at.auto.at-end,
      c.saturating_sub-from.ensures,
    ) in
    all-gathered rs c.loop-at.gathered c.lower_bound.result c.saturating_sub-from.result at
    c.args.low c.args.high
    c.requires.apart c.lower_bound.ensures.index c.saturating_sub-from.ensures inv.from
    (omega (arith, inv.from, inv.reached)) (omega arith) c.requires.range.0 c.requires.range.1
    inv.same (λ lt. absurd (omega arith)) (λ lt. omega arith) (λ lt. absurd (omega arith))
    (omega (arith, inv.few))
