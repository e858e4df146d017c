use Rattle.std.proofs.Common.{◌-◌, length, arith}
use Rattle.sg_table.proofs.HalvingLemmas.{few-probes}
use Rattle.sg_plain_map.proofs.search.lower_bound.Goals as goal

pub returns-clause-probe_count : goal.returns-clause-probe_count
returns-clause-probe_count c =
    let table = c.args.table.now in
    let probes = c.lower_bound.new.self.probes - table.probes in
    let few = few-probes (length table.records) probes c.lower_bound.ensures.search
    (omega (arith, c.requires.table_size)) in
    omega (arith, c.lower_bound.ensures.probes_rise)
