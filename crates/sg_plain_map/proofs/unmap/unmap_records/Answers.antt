use Rattle.std.proofs.Common.{◌≡◌, ◌+◌, ◌-◌, ℕ, [], get_or, ap, ap₂, sym, ◌∙◌, arith}
use Rattle.std.proofs.lemmas.List.Elements.{All-nil}
use Rattle.std.specs.List.{splice}
use Rattle.std.specs.Prelude.{slice_index_or}
use Rattle.sg_pool.specs.MappedRecords.{contents_of, mapping_in}
use Rattle.sg_pool.specs.Slots.{Slots}
use Rattle.sg_table.specs.Table.{Table, visited}
use Rattle.sg_table.specs.declared.run.Run.{Run}
use Rattle.sg_table.proofs.TableLemmas.{visited-more}
use Rattle.sg_plain_map.proofs.RangeLemmas.{used_among-indices}
use Rattle.sg_table.proofs.SpliceLemmas.{all-splice}
use Rattle.sg_plain_map.specs.Editing.{IsSingle}
use Rattle.sg_plain_map.proofs.RemovalLemmas.{unmapped-slot, unmapped-consistent}
use Rattle.sg_plain_map.proofs.RemovalLemmas.{contents-unmapped}
use Rattle.sg_plain_map.proofs.unmap.unmap_records.Goals as goal

-- the record that was visited is the same in the table before the loop
read_of : (t u : Table) (n i : ℕ) (run : Run) → t ≡ visited u n → slice_index_or t.records i run ≡
    run → run ≡ get_or u.records i run
read_of t u n i run e is = sym is ∙ ap (λ (x : Table). slice_index_or x.records i run) e

pub give-requires : goal.give-requires
give-requires c =
    let t = c.args.table.now in
    let inv = c.loop-index.invariant in
    let run = c.visit-run.result in
    let at = read_of c.loop-index.table t _ c.loop-index.index run inv.table c.visit-run.ensures.value in
    let used = unmapped-slot t.records c.args.from c.loop-index.index run (omega arith)
    (omega (arith, c.requires.end.within)) at c.loop-index.pool.blocks c.loop-index.pool.free
    t.room inv.consistent in
    record {
      slot = used.0;
      used = used.1;
      room = omega (arith, used.2, c.requires.ready.table_size);
    }

pub loop-index-preserved : goal.loop-index-preserved
loop-index-preserved c =
    let t = c.args.table.now in
    let inv = c.loop-index.invariant in
    let index = c.loop-index.index in
    let run = c.visit-run.result in
    let at = read_of c.loop-index.table t _ index run inv.table c.visit-run.ensures.value in
    let given = ap (λ (slots : Slots). slots.blocks) c.give.ensures.pool in
    let on : index - c.args.from + 1 ≡ index + 1 - c.args.from = omega arith in
    record {
      table = c.visit-run.ensures.table ∙ ap (λ t. visited t 1) inv.table
          ∙ visited-more t (index - c.args.from) 1 ∙ ap (visited t) on;
      single = all-splice IsSingle t.records [] c.args.from (index + 1) c.requires.ready.single
          (All-nil IsSingle);
      consistent = rw (given, c.give.ensures.free)
          (unmapped-consistent t.records c.args.from index run (omega arith)
          (omega (arith, c.requires.end.within)) at c.loop-index.pool.blocks
          c.loop-index.pool.free t.room inv.consistent);
      blocks = given ∙ inv.blocks;
    }

pub returns-clause-contents : goal.returns-clause-contents
returns-clause-contents c =
    let t = c.args.table.now in
    let inv = c.loop-index.invariant in
    let ready = c.requires.ready in
    let mapped = used_among-indices t.records c.args.pool.now.blocks c.args.from c.args.lba
    c.args.count c.args.to ready.consistent.sorted ready.index c.requires.end in
    let records = ap (λ (x : Table). x.records) c.splice.ensures.table
    ∙ ap (λ (x : Table). splice x.records c.args.from c.args.to []) inv.table in
    ap₂ contents_of records inv.blocks
    ∙ contents-unmapped (mapping_in c.args.pool.now.blocks) t.records c.args.from c.args.to c.args.lba
    c.args.count ready.consistent.sorted ready.index c.requires.end (omega arith)

pub returns-clause-visits : goal.returns-clause-visits
returns-clause-visits c =
    let t = c.args.table.now in
    let ready = c.requires.ready in
    let mapped = used_among-indices t.records c.args.pool.now.blocks c.args.from c.args.lba
    c.args.count c.args.to ready.consistent.sorted ready.index c.requires.end in
    let spliced = ap (λ (x : Table). x.total) c.splice.ensures.table in
    let visits = ap (λ (x : Table). x.total) c.loop-index.invariant.table in
    record { least = omega arith; price = omega arith }
