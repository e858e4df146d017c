use Rattle.std.proofs.Common.{◌+◌, length, ap, ap₂, sym, ◌∙◌, arith}
use Rattle.sg_store.specs.Comparison.{compared}
use Rattle.sg_store.specs.Disk.{blocks, max_capacity}
use Rattle.sg_pool.specs.Source.{joined_blocks}
use Rattle.sg_block_map.specs.Runs.{expanded, chained_contents}
use Rattle.sg_block_map.specs.State.{slot_map}
use Rattle.sg_block_map.proofs.RunSlotLemmas.{length-expanded}
use Rattle.sg_block_map.proofs.OverlapLemmas.{blocks-gathered}
use Rattle.sg_block_map.proofs.StoreLemmas.{runs-ahead, gathered-length}
use Rattle.sg_block_map.proofs.StoreLemmas.{have-room, gathered-range}
use Rattle.sg_block_map.proofs.block_map.BlockMap.compare_with.Goals as goal

pub gather-requires-clause-room : goal.gather-requires-clause-room
gather-requires-clause-room c =
    let s = c.args.self.now in
    have-room s.table s.pool s.gathered s.runs s.pool_fits s.gathered_empty

pub compare_runs-result-requires-clause-ahead : goal.compare_runs-result-requires-clause-ahead
compare_runs-result-requires-clause-ahead c =
    let s = c.args.self.now in
    rw c.records.ensures (runs-ahead s.table.records s.pool s.table.room c.gather.new.gathered
    c.args.lba c.args.count
    s.runs c.gather.ensures.gathered)

pub compare_runs-result-requires-clause-near : goal.compare_runs-result-requires-clause-near
compare_runs-result-requires-clause-near c = rw c.records.ensures c.gather.ensures.gathered.near

pub compare_runs-result-requires-clause-headroom : goal.compare_runs-result-requires-clause-headroom
compare_runs-result-requires-clause-headroom c =
    let s = c.args.self.now in
    let most = gathered-length s.table.records s.pool s.table.room c.gather.new.gathered c.args.lba
    c.args.count
    s.runs c.gather.ensures.gathered in
    rw c.records.ensures (omega (arith, most, s.pool_fits, c.requires.headroom.links))

pub returns-clause-value : goal.returns-clause-value
returns-clause-value c =
    let s = c.args.self.now in
    c.compare_runs-result.ensures.value
    ∙ ap (λ xs. compared xs (joined_blocks c.args.source.now c.args.count))
    (ap (λ zs. blocks (chained_contents zs s.pool) c.args.lba c.args.count) c.records.ensures
    ∙ sym (blocks-gathered s.table.records c.gather.new.gathered s.pool c.args.lba c.args.count
    (max_capacity + 1) c.gather.ensures.gathered))

pub returns-clause-keeps : goal.returns-clause-keeps
returns-clause-keeps c = ap₂ slot_map c.gather.ensures.visits.table c.compare_runs-result.ensures.links.pool

pub returns-clause-costs : goal.returns-clause-costs
returns-clause-costs c =
    let s = c.args.self.now in
    let e = c.gather.ensures in
    let gathered = c.gather.new.gathered in
    let links = ap (λ zs. length (expanded s.pool.next zs)) c.records.ensures
    ∙ length-expanded s.pool.next gathered.records in
    gathered-range s.table c.gather.new.table s.pool c.compare_runs-result.new.pool s.capacity c.args.lba
    c.args.count gathered s.runs e.gathered s.pool_fits e.visits
    c.compare_runs-result.ensures.links.follows.links_rise
    (omega (arith, c.compare_runs-result.ensures.links.follows.most_links, links))
