use Rattle.std.proofs.Common.{arith}
use Rattle.sg_table.proofs.AppendLemmas.{opened-behind}
use Rattle.sg_table.proofs.BalanceLemmas.{filled-all, filled-count}
use Rattle.sg_table.proofs.leaves.splicing.with_room.Goals as goal

pub open-requires-clause-room : goal.open-requires-clause-room
open-requires-clause-room c =
    let ls = c.args.leaves.now.leaves in
    let full = filled-all ls c.args.leaf c.requires.leaf c.requires.filled
    (omega (arith, c.len.ensures.value, c.if-len-lt-MAX_LEAF.false)) in
    omega (arith, filled-count ls full, c.requires.room)

pub returns-clause-appended : goal.returns-clause-appended
returns-clause-appended c =
    opened-behind c.args.leaves.now c.open.new.self c.args.leaf c.requires.leaf c.requires.filled
    (omega (arith, c.len.ensures.value, c.if-len-lt-MAX_LEAF.false)) c.open.ensures
