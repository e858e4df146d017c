use Rattle.std.proofs.Common.{◌∙◌, length, ap, arith}
use Rattle.sg_table.proofs.AppendLemmas.{appended-count, appended-more}
use Rattle.sg_table.proofs.CutLeavesLemmas.{cut-appended, cut-count}
use Rattle.sg_table.proofs.leaves.splicing.replace.Goals as goal

pub append-last-requires-clause-room : goal.append-last-requires-clause-room
append-last-requires-clause-room c =
    let cut = c.cut.ensures in
    omega (
      arith,
      cut-count c.args.leaves.now c.cut.new.leaves c.args.from c.args.to c.args.runs.now _ cut.leaves
          cut.rest,
      cut.leaves.moves.capacity,
      c.requires.room,
    )

pub append-last-requires-clause-count : goal.append-last-requires-clause-count
append-last-requires-clause-count c =
    let cut = c.cut.ensures in
    omega (
      arith,
      cut-count c.args.leaves.now c.cut.new.leaves c.args.from c.args.to c.args.runs.now _ cut.leaves
          cut.rest,
      c.requires.new_count,
    )

pub append-last-requires-2-clause-room : goal.append-last-requires-2-clause-room
append-last-requires-2-clause-room c =
    let cut = c.cut.ensures in
    let first = c.append-last.ensures in
    omega (
      arith,
      cut-count c.args.leaves.now c.cut.new.leaves c.args.from c.args.to c.args.runs.now _ cut.leaves
          cut.rest,
      appended-count c.cut.new.leaves c.append-last.new.leaves c.args.from.leaf c.append-last.result _ first,
      ap length c.as_slice.ensures.value,
      first.capacity,
      cut.leaves.moves.capacity,
      c.requires.room,
    )

pub append-last-requires-2-clause-count : goal.append-last-requires-2-clause-count
append-last-requires-2-clause-count c =
    let cut = c.cut.ensures in
    let first = c.append-last.ensures in
    omega (
      arith,
      cut-count c.args.leaves.now c.cut.new.leaves c.args.from c.args.to c.args.runs.now _ cut.leaves
          cut.rest,
      appended-count c.cut.new.leaves c.append-last.new.leaves c.args.from.leaf c.append-last.result _ first,
      ap length c.as_slice.ensures.value,
      c.requires.new_count,
    )

pub balance-requires-clause-count : goal.balance-requires-clause-count
balance-requires-clause-count c =
    let cut = c.cut.ensures in
    let first = c.append-last.ensures in
    let second = c.append-last-2.ensures in
    omega (
      arith,
      cut-count c.args.leaves.now c.cut.new.leaves c.args.from c.args.to c.args.runs.now _ cut.leaves
          cut.rest,
      appended-count c.cut.new.leaves c.append-last.new.leaves c.args.from.leaf c.append-last.result _ first,
      appended-count c.append-last.new.leaves c.append-last-2.new.leaves c.append-last.result
          c.append-last-2.result _ second,
      ap length c.as_slice.ensures.value,
      c.requires.new_count,
    )

pub returns-clause-records : goal.returns-clause-records
returns-clause-records c =
    let cut = c.cut.ensures in
    let both = appended-more c.cut.new.leaves c.append-last.new.leaves c.append-last-2.new.leaves
    c.args.from.leaf c.append-last.result c.append-last-2.result _ _ c.append-last.ensures
    c.append-last-2.ensures in
    c.balance.ensures.records
    ∙ cut-appended c.args.leaves.now c.cut.new.leaves c.append-last-2.new.leaves c.args.from c.args.to
    c.append-last-2.result _ _ cut.leaves (c.as_slice.ensures.value ∙ cut.rest) both
