use Rattle.std.proofs.Common.{drop}
use Rattle.sg_block_map.proofs.WalkLemmas.{passed-rest}
use Rattle.sg_block_map.proofs.walk.Walk.pass.Goals as goal

pub returns-clause-ahead : goal.returns-clause-ahead
returns-clause-ahead c = passed-rest c.args.pool.now.next c.args.run
    (drop c.args.self.at c.args.runs.now) c.next-first.result c.if-run-eq1.false
    c.next-first.ensures.value
