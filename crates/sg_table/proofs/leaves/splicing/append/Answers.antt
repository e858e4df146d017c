use Rattle.std.proofs.Common.{◌-◌, ◌≤◌, [], List, length, take, drop, ap, arith, length-drop}
use Rattle.std.proofs.lemmas.List.{length-take-le}
use Rattle.sg_table.specs.Leaves.{LeafTable, leaf_at}
use Rattle.sg_table.specs.declared.run.Run.{Run}
use Rattle.sg_table.proofs.AppendLemmas.{appended-count, appended-more, end-spliced}
use Rattle.sg_table.proofs.AppendLemmas.{part-appended, take-part}
use Rattle.sg_table.proofs.leaves.splicing.append.Goals as goal

pub with_room-last-requires-clause-room : goal.with_room-last-requires-clause-room
with_room-last-requires-clause-room c =
    let inv = c.loop-done.invariant in
    omega (
      arith,
      appended-count c.args.leaves.now c.loop-done.leaves c.args.leaf c.loop-done.last _ inv.appended,
      length-take-le c.loop-done.done c.args.runs.now inv.within,
      inv.appended.capacity,
      c.requires.room,
    )

pub edit-requires-clause-count : goal.edit-requires-clause-count
edit-requires-clause-count c =
    let inv = c.loop-done.invariant in
    let runs = c.args.runs.now in
    let done = c.loop-done.done in
    let more = c.with_room-last.ensures.appended in
    omega (
      arith,
      appended-count c.args.leaves.now c.loop-done.leaves c.args.leaf c.loop-done.last _ inv.appended,
      appended-count c.loop-done.leaves c.with_room-last.new.leaves c.loop-done.last
          c.with_room-last.result [] more,
      length-take-le done runs inv.within,
      length-take-le (c.min-end.result - done) (drop done runs) (omega (arith, length-drop done runs)),
      c.requires.count,
    )

pub loop-done-preserved : goal.loop-done-preserved
loop-done-preserved c =
    let inv = c.loop-done.invariant in
    let runs = c.args.runs.now in
    let done = c.loop-done.done in
    let end = c.min-end.result in
    let more = c.with_room-last.ensures.appended in
    let opened = c.with_room-last.new.leaves in
    let last = c.with_room-last.result in
    let old = leaf_at opened.leaves last in
    let part : List Run = take (end - done) (drop done runs) in
    let within : end ≤ length runs = omega arith in
    let spliced = end-spliced old part c.len-len.result c.len-len.ensures.value in
    let put = part-appended opened c.edit.new.self last part _ more.within more.filled spliced
    (ap (λ (t : LeafTable). t.leaves) c.edit.ensures) (ap (λ (t : LeafTable). t.capacity) c.edit.ensures)
    (omega (arith, ap (λ (t : LeafTable). t.moved) c.edit.ensures, c.len-len.ensures.value)) in
    let both = appended-more c.loop-done.leaves opened c.edit.new.self c.loop-done.last last last []
    part more put in
    record {
      within = within;
      appended = rw (take-part runs done end (omega arith) within) (
          appended-more c.args.leaves.now c.loop-done.leaves c.edit.new.self c.args.leaf c.loop-done.last last
          (take done runs) part inv.appended both
          );
    }
