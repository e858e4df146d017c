use Rattle.std.proofs.Common.{◌≡◌, ◌+◌, ap, ◌∙◌, arith}
use Rattle.sg_table.specs.Table.{Table}
use Rattle.sg_store.specs.Disk.{max_capacity}
use Rattle.sg_block_map.proofs.OrderLemmas.{maximal-sorted}
use Rattle.sg_block_map.proofs.GatheringLemmas.{all-gathered, count-starts, searched-visits}
use Rattle.sg_block_map.proofs.gather.gather_between.Goals as goal

pub lower_bound-index-requires-clause-sorted : goal.lower_bound-index-requires-clause-sorted
lower_bound-index-requires-clause-sorted c = maximal-sorted c.args.table.now.records 0
    (max_capacity + 1) c.requires.runs

pub gather_from-requires-clause-runs : goal.gather_from-requires-clause-runs
gather_from-requires-clause-runs c =
    let same = ap (λ (t : Table). t.records) c.gather_before.ensures.visits.table
    ∙ ap (λ (t : Table). t.records) c.lower_bound-index.ensures.table in
    rw same c.requires.runs

pub gather_from-requires-clause-gathered : goal.gather_from-requires-clause-gathered
gather_from-requires-clause-gathered c =
    let b = c.gather_before.ensures.gathered in
    let same = ap (λ (t : Table). t.records) c.gather_before.ensures.visits.table in
    let one = ap (λ (t : Table). t.records) c.lower_bound-index.ensures.table in
    let within = c.lower_bound-index.ensures.index.within in
    record {
      reached = b.reached;
      within = rw (same, one) within;
      same = rw same b.same;
    }

pub returns-clause-gathered : goal.returns-clause-gathered
returns-clause-gathered c =
    let rs = c.args.table.now.records in
    let index = c.lower_bound-index.ensures.index in
    let one = ap (λ (t : Table). t.records) c.lower_bound-index.ensures.table in
    let two : c.gather_before.new.table.records ≡ rs =
    ap (λ (t : Table). t.records) c.gather_before.ensures.visits.table ∙ one in
    let begun = rw one at c.gather_before.ensures.gathered in
    let on = rw two at c.gather_from.ensures.gathered in
    all-gathered rs c.gather_before.new.gathered c.gather_from.new.gathered
    c.lower_bound-index.result c.args.low c.args.high (max_capacity + 1) begun index
    c.requires.range.0 on.from on.order on.within on.same on.near on.after c.requires.runs
    (omega (arith, c.requires.range.1))

pub returns-clause-visits : goal.returns-clause-visits
returns-clause-visits c =
    let rs = c.args.table.now.records in
    let e = c.lower_bound-index.ensures in
    let index = c.lower_bound-index.result in
    let one = ap (λ (t : Table). t.records) e.table in
    let two : c.gather_before.new.table.records ≡ rs =
    ap (λ (t : Table). t.records) c.gather_before.ensures.visits.table ∙ one in
    let starts = count-starts rs index c.args.low c.args.high e.index.after in
    let all = searched-visits c.args.table.now c.lower_bound-index.new.self
    c.gather_before.new.table c.gather_from.new.table _ _ _ _ e.table e.probes_rise e.search
    c.gather_before.ensures.visits c.gather_from.ensures.visits in
    let most = rw two at all.between.most_visits in
    let on = c.gather_from.ensures.gathered in
    let begun = c.gather_before.ensures.gathered in
    let from = on.from in
    let order = on.order in
    record {
      table = all.table;
      probes_rise = all.probes_rise;
      search = all.search;
      between = record {
        fewest_visits = omega (arith, all.between.fewest_visits, begun.reached, from, order);
        most_visits = omega (arith, starts, most);
      };
    }
