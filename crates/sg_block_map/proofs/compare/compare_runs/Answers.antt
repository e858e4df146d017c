use Rattle.std.proofs.Common.{◌≡◌, ℕ, ◌+◌, List, length, ap, ap₂, sym, ◌∙◌, arith}
use Rattle.std.proofs.Common.{add-zero, length-append}
use Rattle.std.specs.FinMap as map
use Rattle.std.specs.Prelude.{Err, Option, option_map, option_to_list}
use Rattle.std.proofs.lemmas.Result.{err_from_is_err_and}
use Rattle.sg_store.specs.Disk.{block, data_in}
use Rattle.sg_pool.specs.Comparison.{compared_at}
use Rattle.sg_pool.specs.MappedRecords.{contents_of, mapping_in}
use Rattle.sg_pool.specs.Slots.{Slots}
use Rattle.sg_pool.proofs.ComparisonLemmas.{compared-differs, compared-same, joined-none, same-more}
use Rattle.sg_table.specs.declared.run.Run.{Run}
use Rattle.sg_block_map.specs.Runs.{expanded, chained_contents}
use Rattle.sg_block_map.specs.Walking.{ahead_of}
use Rattle.sg_store.proofs.DiskLemmas.{blocks-none}
use Rattle.sg_block_map.proofs.ExpandedLemmas.{expanded-append}
use Rattle.sg_block_map.proofs.SplitLemmas.{followed-on}
use Rattle.sg_block_map.proofs.WalkLemmas.{walk_from-ahead, walk_from-parts, get-walk_from}
use Rattle.sg_block_map.proofs.compare.compare_runs.Goals as goal

pub loop-i-init : goal.loop-i-init
loop-i-init c =
    let p = c.args.pool.now in
    let runs = c.args.runs.now in
    let t = c.walk_from-before.ensures.walk in
    let w = c.walk_from-before.result.1 in
    let more = ahead_of runs w.run w.at in
    let fs = option_to_list c.walk_from-before.result.0 in
    let len = ap length (sym (walk_from-parts p.next runs c.args.lba c.walk_from-before.result.0
    more t) ∙ expanded-append p.next fs more)
    ∙ length-append (expanded p.next fs) (expanded p.next more) in
    record {
      ahead = rw add-zero (walk_from-ahead p.next (length p.next) runs c.args.lba
          (c.args.lba + c.args.count) c.walk_from-before.result.0 more c.requires.ahead
          c.requires.near (omega (arith, c.requires.range)) t);
      same = blocks-none (chained_contents runs p) c.args.lba ∙ sym (joined-none c.args.source.now);
      later = λ q le. sym (get-walk_from p.next runs c.args.lba
          (c.args.lba + c.args.count) q c.walk_from-before.result.0 more (mapping_in p.blocks) t
          (omega arith));
      pool = c.walk_from-before.ensures.links.pool;
      rise = c.walk_from-before.ensures.links.follows.links_rise;
      links = omega (arith, len, c.walk_from-before.ensures.links.follows.most_links);
    }

-- the block that is found at an address is the one of all runs
block-there : (p l q : Slots) (runs before : List Run) (found : Option Run) (lba : ℕ) (xs : List ℕ)
    → l.next ≡ p.next → l.blocks ≡ p.blocks → q.blocks ≡ l.blocks
    → xs ≡ data_in (option_map (λ (run : Run). mapping_in q.blocks run.first run.kind) found)
    → data_in (option_map (λ (run : Run). mapping_in l.blocks run.first run.kind) found)
    ≡ block (chained_contents before l) lba
    → map.get (chained_contents before p) lba ≡ map.get (chained_contents runs p) lba
    → xs ≡ block (chained_contents runs p) lba
block-there p l q runs before found lba xs next bs moved is e same =
    is
    ∙ ap (λ bs. data_in (option_map (λ (run : Run). mapping_in bs run.first run.kind) found)) moved
    ∙ e ∙ ap₂ (λ ns bs. block (contents_of (expanded ns before) bs) lba) next bs ∙ ap data_in same

pub found_block-requires : goal.found_block-requires
found_block-requires c =
    let e = c.pass_address-found.ensures in
    let same = ap (λ (s : Slots). length s.blocks) e.links.pool in
    record { slot = rw same e.slot }

pub returns-in_err-compare-clause-value : goal.returns-in_err-compare-clause-value
returns-in_err-compare-clause-value c =
    let p = c.args.pool.now in
    let runs = c.args.runs.now in
    let inv = c.loop-i.invariant in
    let i = c.loop-i.i in
    let lba = c.args.lba in
    let e = c.pass_address-found.ensures in
    let before = ahead_of runs c.loop-i.walk.run c.loop-i.walk.at in
    let here : lba + c.from.result ≡ lba + i = ap (λ x. lba + x) c.from.ensures in
    let there = block-there p c.loop-i.pool c.pass_address-found.new.pool runs before
    c.pass_address-found.result.0 (lba + i) c.found_block.result.now
    (ap (λ (s : Slots). s.next) inv.pool) (ap (λ (s : Slots). s.blocks) inv.pool)
    (ap (λ (s : Slots). s.blocks) e.links.pool) c.found_block.ensures.block (rw here at e.block)
    (inv.later (lba + i) (omega arith)) in
    let source = c.args.source.now in
    let err = err_from_is_err_and c.from_residual.result c.from_residual.ensures.1 in
    err.1 ∙ ap Err err.2
    ∙ compared-differs (chained_contents runs p) source lba i c.args.count _ c.loop-i-test.true
    c.requires.whole inv.same
    (ap (compared_at source i) (sym there) ∙ sym c.compare.ensures.value ∙ c.in_err-compare.was)

pub returns-in_err-compare-clause-links : goal.returns-in_err-compare-clause-links
returns-in_err-compare-clause-links c =
    let p = c.args.pool.now in
    let inv = c.loop-i.invariant in
    let e = c.pass_address-found.ensures in
    let next = ap (λ (s : Slots). s.next) inv.pool in
    let links = rw next at e.links.follows.most_links in
    record {
      pool = followed-on p c.loop-i.pool c.pass_address-found.new.pool inv.pool inv.rise
          e.links.pool e.links.follows.links_rise;
      follows = record {
        links_rise = omega (arith, inv.rise, e.links.follows.links_rise);
        most_links = omega (arith, links, inv.links);
      };
    }

pub loop-i-preserved : goal.loop-i-preserved
loop-i-preserved c =
    let p = c.args.pool.now in
    let runs = c.args.runs.now in
    let inv = c.loop-i.invariant in
    let i = c.loop-i.i in
    let lba = c.args.lba in
    let e = c.pass_address-found.ensures in
    let before = ahead_of runs c.loop-i.walk.run c.loop-i.walk.at in
    let next = ap (λ (s : Slots). s.next) inv.pool in
    let bs = ap (λ (s : Slots). s.blocks) inv.pool in
    let here : lba + c.from.result ≡ lba + i = ap (λ x. lba + x) c.from.ensures in
    let on : lba + i + 1 ≡ lba + (i + 1) = omega arith in
    let there = block-there p c.loop-i.pool c.pass_address-found.new.pool runs before
    c.pass_address-found.result.0 (lba + i) c.found_block.result.now next bs
    (ap (λ (s : Slots). s.blocks) e.links.pool) c.found_block.ensures.block (rw here at e.block)
    (inv.later (lba + i) (omega arith)) in
    let later = rw (next, bs, here, on) at e.goes_past.later in
    let links = rw next at e.links.follows.most_links in
    record {
      ahead = rw (next, here, on) at e.goes_past.still_ahead;
      same = same-more (chained_contents runs p) c.args.source.now lba i inv.same
          (sym there ∙ c.in_ok-compare.ensures.same);
      later = λ q le. later q le ∙ inv.later q (omega arith);
      pool = followed-on p c.loop-i.pool c.pass_address-found.new.pool inv.pool inv.rise
          e.links.pool e.links.follows.links_rise;
      rise = omega (arith, inv.rise, e.links.follows.links_rise);
      links = omega (arith, links, inv.links);
    }

pub returns-clause-value : goal.returns-clause-value
returns-clause-value c =
    let all : c.loop-i.i ≡ c.args.count = omega (arith, c.loop-i-test.false) in
    compared-same _ _ (rw all at c.loop-i.invariant.same)
