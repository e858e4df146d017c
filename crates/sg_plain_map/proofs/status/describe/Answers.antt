use Rattle.std.proofs.Common.{sym, ◌∙◌}
use Rattle.sg_plain_map.proofs.DescribedLemmas.{gap-low, gap-index, described-gap, described-row}
use Rattle.sg_plain_map.proofs.DescribedLemmas.{row-ends, row-some}
use Rattle.sg_plain_map.proofs.status.describe.Goals as goal

-- the address is not mapped
pub count_unmapped-count-requires : goal.count_unmapped-count-requires
count_unmapped-count-requires c =
    let at = c.requires.cursor in
    gap-low c.args.capacity c.args.lba c.args.cursor.index c.args.table.now.records
    c.args.cursor.next c.requires.address at.index at.next

pub returns-in-None-clause-descriptor : goal.returns-in-None-clause-descriptor
returns-in-None-clause-descriptor c =
    let at = c.requires.cursor in
    described-gap c.args.table.now.records c.args.capacity c.args.lba c.count_unmapped-count.result
    c.args.cursor.index c.args.cursor.next
    c.requires.table c.requires.address at.index at.next
    (sym c.run_at.ensures ∙ c.in-None.is) c.count_unmapped-count.ensures

pub returns-in-None-clause-cursor : goal.returns-in-None-clause-cursor
returns-in-None-clause-cursor c =
    let at = c.requires.cursor in
    record {
      index = gap-index c.args.table.now.records c.args.capacity c.args.lba
          c.count_unmapped-count.result c.args.cursor.index c.args.cursor.next
          c.requires.table c.requires.address at.index at.next
          (sym c.run_at.ensures ∙ c.in-None.is) c.count_unmapped-count.ensures;
      next = at.next;
    }

-- the address is mapped
pub returns-in-Some-clause-descriptor : goal.returns-in-Some-clause-descriptor
returns-in-Some-clause-descriptor c =
    let rs = c.args.table.now.records in
    let end = c.pass_alike-end.result in
    let e = c.pass_alike-end.ensures in
    let sorted = c.requires.table.sorted in
    let some = row-some rs c.args.cursor end c.args.lba c.in-Some.run' sorted c.requires.cursor
    (sym c.run_at.ensures ∙ c.in-Some.is) e.cursor e.end in
    λ blocks. rw c.status_of-status.ensures
    (described-row rs blocks c.args.capacity c.args.lba c.args.cursor.index end.index
    c.in-Some.run'.kind c.requires.table e.row some e.cursor.index.within
    (row-ends rs blocks end _ c.in-Some.run'.kind sorted e.cursor e.end))
