use Rattle.std.proofs.Common.{sym, ◌∙◌}
use Rattle.sg_pool.proofs.MappedLemmas.{len-contents_by}
use Rattle.sg_pool.specs.MappedRecords.{mapping_in}
use Rattle.sg_plain_map.proofs.plain_map.PlainMapStore.used.Goals as goal

pub returns-clause-value : goal.returns-clause-value
returns-clause-value c =
    let s = c.args.self.now in
    c.count.ensures.value ∙ sym
    (len-contents_by (mapping_in s.pool.blocks) s.table.records s.consistent.sorted)
