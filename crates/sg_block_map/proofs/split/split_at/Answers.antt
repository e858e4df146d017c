use Rattle.std.proofs.Common.{◌-◌, length, arith}
use Rattle.sg_block_map.specs.Splitting.{front_of}
use Rattle.sg_block_map.proofs.SplitLemmas.{is_split-none, is_split-all, is_split-both}
use Rattle.sg_pool.proofs.LinkLemmas.{below-front}
use Rattle.sg_block_map.proofs.SplitLemmas.{length-one}
use Rattle.sg_block_map.proofs.split.split_at.Goals as goal

pub returns-then-lba-run-clause-split : goal.returns-then-lba-run-clause-split
returns-then-lba-run-clause-split c = is_split-none c.args.pool.now.next c.args.run c.args.lba
    c.if-lba-run.true c.requires.chain

pub returns-then-before-from-clause-split : goal.returns-then-before-from-clause-split
returns-then-before-from-clause-split c = is_split-all c.args.pool.now.next c.args.run c.args.lba
    (omega (arith, c.if-lba-run.false)) (omega (arith, c.if-before-from.true, c.from.ensures))
    c.requires.chain

pub split-requires-clause-below : goal.split-requires-clause-below
split-requires-clause-below c =
    below-front (length c.args.pool.now.next) c.args.pool.now.next c.args.run.first
    (c.args.lba - c.args.run.start) c.args.run.count
    (omega (arith, c.if-before-from.false, c.from.ensures)) c.requires.below

pub returns-clause-split : goal.returns-clause-split
returns-clause-split c =
    rw (c.split.ensures.front, c.split.ensures.rest)
    (is_split-both c.args.pool.now.next c.args.run c.args.lba
    (omega (arith, c.if-lba-run.false)) (omega (arith, c.if-before-from.false, c.from.ensures))
    c.requires.chain)

pub returns-clause-links : goal.returns-clause-links
returns-clause-links c =
    let p = c.args.pool.now in
    let next = p.next in
    let before = c.args.lba - c.args.run.start in
    rw c.split.ensures.front (record {
      pool = c.split.ensures.pool.pool;
      follows = record {
        links_rise = c.split.ensures.pool.follows.links_rise;
        most_links = omega (
          arith,
          c.split.ensures.pool.follows.most_links,
          length-one next (front_of next c.args.run before),
        );
      };
    })
