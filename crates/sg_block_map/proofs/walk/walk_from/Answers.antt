use Rattle.std.proofs.Common.{drop, sym, arith}
use Rattle.sg_block_map.proofs.WalkLemmas.{ahead-first}
use Rattle.sg_block_map.proofs.walk.walk_from.Goals as goal

pub split_at-front-requires-clause-below : goal.split_at-front-requires-clause-below
split_at-front-requires-clause-below c =
    let all = rw c.in-Some.is at c.new-walk.ensures in
    let ahead = rw (sym all) at c.requires.ahead in
    (ahead-first _ _ 0 c.in-Some.run' (drop c.new-walk.result.at c.args.runs.now) ahead).0

pub split_at-front-requires-clause-range : goal.split_at-front-requires-clause-range
split_at-front-requires-clause-range c =
    let all = rw c.in-Some.is at c.new-walk.ensures in
    let ahead = rw (sym all) at c.requires.ahead in
    (ahead-first _ _ 0 c.in-Some.run' (drop c.new-walk.result.at c.args.runs.now) ahead).1

pub split_at-front-requires-clause-headroom : goal.split_at-front-requires-clause-headroom
split_at-front-requires-clause-headroom c =
    let all = rw c.in-Some.is at c.new-walk.ensures in
    let ahead = rw (sym all) at c.requires.ahead in
    let few = rw all at ((ahead-first _ _ 0 c.in-Some.run'
    (drop c.new-walk.result.at c.args.runs.now) ahead).2) in
    omega (arith, few, c.requires.headroom)
