use Rattle.std.proofs.Common.{◌-◌, ap, sym, ◌∙◌, arith}
use Rattle.std.specs.Prelude.{slice_index_or}
use Rattle.sg_table.specs.Table.{Table}
use Rattle.sg_table.proofs.RecordLemmas.{start_of-read}
use Rattle.sg_extent_map.proofs.AddressLemmas.{end_at-read}
use Rattle.sg_extent_map.proofs.StatusLemmas.{cursor-before, cursor-at}
use Rattle.sg_pool.proofs.RisingLemmas.{apart-sorted}
use Rattle.sg_extent_map.proofs.status.cursor_over.Goals as goal

pub lower_bound-index-requires-clause-sorted : goal.lower_bound-index-requires-clause-sorted
lower_bound-index-requires-clause-sorted c =
    apart-sorted c.args.table.now.records 0 c.requires.table.0 c.requires.table.1.apart

pub overflow_sub-lba : goal.overflow_sub-lba
overflow_sub-lba c =
    let rs = c.args.table.now.records in
    let p = c.lower_bound-index.ensures.index in
    let index = c.lower_bound-index.result in
    let within = p.within in
    let read = sym (ap (λ (t : Table). slice_index_or t.records (index - 1) c.visit-run.result)
    c.lower_bound-index.ensures.table) ∙ c.visit-run.ensures.value in
    let start = start_of-read rs (index - 1) c.visit-run.result (omega arith) (sym read) in
    omega (arith, p.before (index - 1) (omega arith))

pub returns-then-index-eq0-clause-cursor : goal.returns-then-index-eq0-clause-cursor
returns-then-index-eq0-clause-cursor c =
    let rs = c.args.table.now.records in
    let index = c.lower_bound-index.result in
    cursor-at rs c.requires.table.0 index c.args.lba c.new.result c.requires.table.1
    c.lower_bound-index.ensures.index
    (λ some. absurd (omega arith)) c.new.ensures.index
    (rw c.lower_bound-index.ensures.table at c.new.ensures.next)

pub returns-then-lba-run-clause-cursor : goal.returns-then-lba-run-clause-cursor
returns-then-lba-run-clause-cursor c =
    let rs = c.args.table.now.records in
    let index = c.lower_bound-index.result in
    let p = c.lower_bound-index.ensures.index in
    let within = p.within in
    let read = sym (ap (λ (t : Table). slice_index_or t.records (index - 1) c.visit-run.result)
    c.lower_bound-index.ensures.table) ∙ c.visit-run.ensures.value in
    let start = start_of-read rs (index - 1) c.visit-run.result (omega arith) (sym read) in
    cursor-before rs c.requires.table.0 index c.args.lba c.visit-run.result c.requires.table.1 p
    (omega arith) read
    (omega (arith, start, p.before (index - 1) (omega arith), c.if-lba-run.true, c.from.ensures))

pub returns-clause-cursor : goal.returns-clause-cursor
returns-clause-cursor c =
    let rs = c.args.table.now.records in
    let index = c.lower_bound-index.result in
    let p = c.lower_bound-index.ensures.index in
    let within = p.within in
    let read = sym (ap (λ (t : Table). slice_index_or t.records (index - 1) c.visit-run.result)
    c.lower_bound-index.ensures.table) ∙ c.visit-run.ensures.value in
    let start = start_of-read rs (index - 1) c.visit-run.result (omega arith) (sym read) in
    let end = end_at-read rs (index - 1) c.visit-run.result (omega arith) (sym read) in
    let same = ap (λ (t : Table). t.records) c.visit-run.ensures.table
    ∙ ap (λ (t : Table). t.records) c.lower_bound-index.ensures.table in
    cursor-at rs c.requires.table.0 index c.args.lba c.new-2.result c.requires.table.1 p
    (λ some. omega (
      arith,
      start,
      end,
      p.before (index - 1) (omega arith),
      c.if-lba-run.false,
      c.from.ensures,
    )) c.new-2.ensures.index
    (rw same at c.new-2.ensures.next)
