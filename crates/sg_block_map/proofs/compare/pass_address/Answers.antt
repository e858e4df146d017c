use Rattle.std.proofs.Common.{length, ap, sym, ◌∙◌, arith}
use Rattle.std.specs.FinMap as map
use Rattle.sg_store.specs.Disk.{data_in}
use Rattle.sg_pool.specs.MappedRecords.{mapping_in, contents_of}
use Rattle.sg_block_map.specs.Runs.{expanded}
use Rattle.sg_block_map.proofs.WalkLemmas.{first-slot, first-block, first-ahead}
use Rattle.sg_block_map.proofs.WalkLemmas.{first-later, first-length, skip-block}
use Rattle.sg_block_map.proofs.compare.pass_address.Goals as goal

pub returns-in_default-clause-block : goal.returns-in_default-clause-block
returns-in_default-clause-block c =
    let p = c.args.pool.now in
    let w = c.args.walk in
    sym (ap data_in (skip-block p.next (length p.next) c.args.lba w.at c.args.runs.now w.run
    (mapping_in p.blocks) c.requires.ahead c.requires.range (sym c.run_at.ensures ∙ c.in_default.is)))

pub pass-ahead-requires-clause-slot : goal.pass-ahead-requires-clause-slot
pass-ahead-requires-clause-slot c =
    let p = c.args.pool.now in
    let w = c.args.walk in
    first-slot p.next (length p.next) c.args.lba w.at c.args.runs.now w.run c.in-Some.run'
    c.requires.ahead (sym c.run_at.ensures ∙ c.in-Some.is)

pub returns-clause-slot : goal.returns-clause-slot
returns-clause-slot c =
    let p = c.args.pool.now in
    let w = c.args.walk in
    let slot = first-slot p.next (length p.next) c.args.lba w.at c.args.runs.now w.run
    c.in-Some.run' c.requires.ahead (sym c.run_at.ensures ∙ c.in-Some.is) in
    omega (arith, slot, c.requires.pool)

pub returns-clause-block : goal.returns-clause-block
returns-clause-block c =
    let p = c.args.pool.now in
    let w = c.args.walk in
    sym (first-block p.next (length p.next) c.args.lba w.at c.args.runs.now w.run c.in-Some.run'
    c.requires.ahead (sym c.run_at.ensures ∙ c.in-Some.is) (mapping_in p.blocks))

pub returns-clause-goes_past : goal.returns-clause-goes_past
returns-clause-goes_past c =
    let p = c.args.pool.now in
    let w = c.args.walk in
    let is = sym c.run_at.ensures ∙ c.in-Some.is in
    record {
      still_ahead = rw c.pass-ahead.ensures.ahead (first-ahead p.next (length p.next) c.args.lba w.at
          c.args.runs.now w.run c.in-Some.run' c.requires.ahead is);
      later = λ q le. ap (λ xs. map.get (contents_of (expanded p.next xs) p.blocks) q)
          c.pass-ahead.ensures.ahead
          ∙ first-later p.next (length p.next) c.args.lba w.at c.args.runs.now w.run
          c.in-Some.run' c.requires.ahead is (mapping_in p.blocks) q le;
    }

pub returns-clause-links : goal.returns-clause-links
returns-clause-links c =
    let p = c.args.pool.now in
    let w = c.args.walk in
    let len = first-length p.next (length p.next) c.args.lba w.at c.args.runs.now w.run
    c.in-Some.run' c.requires.ahead (sym c.run_at.ensures ∙ c.in-Some.is) in
    let same = ap (λ xs. length (expanded p.next xs)) c.pass-ahead.ensures.ahead in
    record {
      pool = c.pass-ahead.ensures.links.pool;
      follows = record {
        links_rise = c.pass-ahead.ensures.links.follows.links_rise;
        most_links = omega (arith, len, same, c.pass-ahead.ensures.links.follows.most_links);
      };
    }
