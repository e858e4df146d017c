use Rattle.std.proofs.Common.{arith, ap, ◌∙◌, rules}
use Rattle.sg_table.specs.Table.{Table}
use Rattle.sg_plain_map.proofs.RangeLemmas.{need_between}
use Rattle.sg_plain_map.proofs.plain_map.PlainMapStore.need.Goals as goal

pub overflow_sub-result-2 : goal.overflow_sub-result-2
overflow_sub-result-2 c =
    let s = c.args.self.now in
    let to = rw c.lower_bound-from.ensures.table at c.lower_bound-to.ensures.index in
    let used = need_between s.table.records s.pool.blocks c.lower_bound-from.result
    c.lower_bound-to.result c.args.lba c.args.count s.consistent.sorted
    c.lower_bound-from.ensures.index to in
    omega (arith, used)

pub returns : goal.returns
returns c =
    let s = c.args.self.now in
    let to = rw c.lower_bound-from.ensures.table at c.lower_bound-to.ensures.index in
    let used = need_between s.table.records s.pool.blocks c.lower_bound-from.result
    c.lower_bound-to.result c.args.lba c.args.count s.consistent.sorted
    c.lower_bound-from.ensures.index to in
    let searched = c.lower_bound-from.ensures.table in
    let twice = c.lower_bound-to.ensures.table in
    let passed = c.visit_records.ensures in
    let total = ap (λ (x : Table). x.total) searched in
    let total' = ap (λ (x : Table). x.total) twice in
    let total'' = ap (λ (x : Table). x.total) passed in
    let visits = ap (λ (x : Table). x.visits) searched in
    let visits' = ap (λ (x : Table). x.visits) twice in
    let visits'' = ap (λ (x : Table). x.visits) passed in
    let probes'' = ap (λ (x : Table). x.probes) passed in
    let restarts = ap (λ (x : Table). x.restarts) passed ∙ ap (λ (x : Table). x.restarts) twice
    ∙ ap (λ (x : Table). x.restarts) searched in
    record {
      value = omega (arith, used);
      disk = search rules;
      costs = record {
        cost = record {
          visits = omega (arith, total, total', total'', visits, visits', visits'');
          visits_rise = omega (arith, total, total', total'');
          probes_rise = omega (
            arith,
            probes'',
            c.lower_bound-from.ensures.probes_rise,
            c.lower_bound-to.ensures.probes_rise,
          );
          probes = omega (
            arith,
            probes'',
            c.lower_bound-from.ensures.probe_count,
            c.lower_bound-to.ensures.probe_count,
          );
          links_rise = omega arith;
          links = omega arith;
          restarts = restarts;
        };
        price = omega (arith, total, total', total'', used);
        least = omega (arith, total, total', total'', used);
      };
    }
