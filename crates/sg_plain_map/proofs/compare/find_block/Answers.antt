use Rattle.std.proofs.Common.{◌+◌, ap, sym, ◌∙◌, arith}
use Rattle.sg_store.specs.Disk.{block}
use Rattle.sg_pool.specs.MappedRecords.{contents_of, mapping_in}
use Rattle.sg_table.specs.Records.{ahead}
use Rattle.sg_table.specs.Table.{visited}
use Rattle.sg_table.proofs.TableLemmas.{visited-more}
use Rattle.sg_plain_map.proofs.CursorLemmas.{found, ahead-found, none-found, stays-at}
use Rattle.sg_pool.proofs.MappedLemmas.{block-mapped, block-unmapped, one_used, none_used}
use Rattle.sg_table.proofs.RecordLemmas.{index-mapped}
use Rattle.sg_plain_map.proofs.compare.find_block.Goals as goal

pub returns-in_default-clause-block : goal.returns-in_default-clause-block
returns-in_default-clause-block c =
    let rs = c.args.table.now.records in
    let none = none-found rs c.args.cursor c.args.lba c.requires.readable.sorted c.requires.cursor
    (sym c.run_at.ensures ∙ c.in_default.is) in
    c.found_block.ensures.block
    ∙ sym (block-unmapped rs c.args.pool.now.blocks c.args.lba none)

pub returns-in_default-clause-cursor : goal.returns-in_default-clause-cursor
returns-in_default-clause-cursor c =
    stays-at c.args.table.now.records c.args.cursor c.args.lba c.requires.readable.sorted c.requires.cursor
    (sym c.run_at.ensures ∙ c.in_default.is)

pub returns-in_default-clause-index : goal.returns-in_default-clause-index
returns-in_default-clause-index c =
    let rs = c.args.table.now.records in
    let none = none-found rs c.args.cursor c.args.lba c.requires.readable.sorted c.requires.cursor
    (sym c.run_at.ensures ∙ c.in_default.is) in
    omega (arith, none_used (mapping_in c.args.pool.now.blocks) rs c.args.lba none)

pub overflow_add-cursor : goal.overflow_add-cursor
overflow_add-cursor c =
    let at = found c.args.table.now.records c.args.cursor.next c.args.cursor.index c.args.lba
    c.in-Some.run' c.requires.cursor.next (sym c.run_at.ensures ∙ c.in-Some.is) in
    record { fits = omega (arith, at.0, c.requires.readable.table_size) }

pub returns-clause-block : goal.returns-clause-block
returns-clause-block c =
    let rs = c.args.table.now.records in
    let blocks = c.args.pool.now.blocks in
    let at = found rs c.args.cursor.next c.args.cursor.index c.args.lba c.in-Some.run'
    c.requires.cursor.next (sym c.run_at.ensures ∙ c.in-Some.is) in
    c.found_block-block.ensures.block
    ∙ sym (block-mapped rs blocks c.args.cursor.index c.in-Some.run' c.requires.readable.sorted at.0
    (sym at.1)) ∙ ap (block (contents_of rs blocks)) at.2

pub returns-clause-cursor : goal.returns-clause-cursor
returns-clause-cursor c =
    let rs = c.args.table.now.records in
    let at = found rs c.args.cursor.next c.args.cursor.index c.args.lba c.in-Some.run'
    c.requires.cursor.next (sym c.run_at.ensures ∙ c.in-Some.is) in
    record {
      index = rw c.new.ensures.index
          (index-mapped rs c.args.cursor.index c.args.lba c.in-Some.run' c.requires.readable.sorted
          c.requires.cursor.index at.0 (sym at.1) at.2);
      next = rw c.new.ensures.index c.new.ensures.next;
    }

pub returns-clause-index : goal.returns-clause-index
returns-clause-index c =
    let rs = c.args.table.now.records in
    let at = found rs c.args.cursor.next c.args.cursor.index c.args.lba c.in-Some.run'
    c.requires.cursor.next (sym c.run_at.ensures ∙ c.in-Some.is) in
    let mapped = one_used (mapping_in c.args.pool.now.blocks) rs c.args.cursor.index c.args.lba c.in-Some.run'
    c.requires.readable.sorted at.0 (sym at.1) at.2 in
    omega (arith, c.new.ensures.index)

pub returns-clause-cost : goal.returns-clause-cost
returns-clause-cost c =
    let t = c.args.table.now in
    let passed = c.args.cursor.index + ahead c.args.cursor.next in
    let paid = ahead-found c.args.cursor.next c.args.lba c.in-Some.run' (sym c.run_at.ensures
    ∙ c.in-Some.is) in
    ap (λ t. visited t passed) c.new.ensures.table ∙ visited-more t (ahead c.new.result.next) passed
    ∙ ap (visited t) (omega (arith, c.new.ensures.index))
