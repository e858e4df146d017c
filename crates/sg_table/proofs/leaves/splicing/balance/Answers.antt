use Rattle.std.proofs.Common.{inr, arith}
use Rattle.sg_table.proofs.BalanceLemmas.{filled-all, pair-of}
use Rattle.sg_table.proofs.leaves.splicing.balance.Goals as goal

pub returns-then-len-ge-MIN_LEAF-clause-balanced : goal.returns-then-len-ge-MIN_LEAF-clause-balanced
returns-then-len-ge-MIN_LEAF-clause-balanced c =
    inr (filled-all c.args.leaves.now.leaves c.args.leaf c.requires.leaf c.requires.filled
    (omega (arith, c.len.ensures.value, c.if-len-ge-MIN_LEAF.true)))

pub level-requires-clause-pair : goal.level-requires-clause-pair
level-requires-clause-pair c =
    (pair-of c.args.leaves.now.leaves c.args.leaf _ c.saturating_sub.ensures c.requires.leaf
    (omega arith) c.requires.filled).size

pub level-requires-clause-before : goal.level-requires-clause-before
level-requires-clause-before c =
    (pair-of c.args.leaves.now.leaves c.args.leaf _ c.saturating_sub.ensures c.requires.leaf
    (omega arith) c.requires.filled).before

pub level-requires-clause-behind : goal.level-requires-clause-behind
level-requires-clause-behind c =
    (pair-of c.args.leaves.now.leaves c.args.leaf _ c.saturating_sub.ensures c.requires.leaf
    (omega arith) c.requires.filled).behind
