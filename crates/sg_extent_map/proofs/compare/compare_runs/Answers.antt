use Rattle.std.proofs.Common.{◌≡◌, ℕ, ◌+◌, ◌++◌, List, drop, length, arith, ap, sym, ◌∙◌}
use Rattle.std.proofs.Common.{add-zero, append_assoc}
use Rattle.std.specs.Prelude.{Err, Option, option_map, option_to_list}
use Rattle.std.proofs.lemmas.Result.{err_from_is_err_and}
use Rattle.sg_store.specs.Disk.{block, data_in, max_capacity}
use Rattle.sg_pool.specs.MappedRecords.{contents_of, mapping_in}
use Rattle.sg_pool.specs.Comparison.{compared_at}
use Rattle.sg_pool.specs.Rising.{AreBetween}
use Rattle.sg_store.proofs.DiskLemmas.{blocks-none}
use Rattle.sg_table.specs.declared.run.Run.{Run}
use Rattle.sg_extent_map.specs.Extents.{singles, singles_of}
use Rattle.sg_extent_map.specs.Walking.{ahead_of, Passes}
use Rattle.sg_extent_map.proofs.BetweenLemmas.{between-singles}
use Rattle.sg_pool.proofs.ComparisonLemmas.{compared-differs, compared-same, joined-none, same-more}
use Rattle.sg_pool.proofs.RisingLemmas.{between-append}
use Rattle.sg_extent_map.proofs.WalkLemmas.{ahead-weaker, between-found, between-front, block-found}
use Rattle.sg_extent_map.proofs.WalkLemmas.{slot-found}
use Rattle.sg_extent_map.proofs.compare.compare_runs.Goals as goal

pub begin-requires-clause-ahead : goal.begin-requires-clause-ahead
begin-requires-clause-ahead c =
    ahead-weaker (length c.args.pool.now.blocks) _ 0 c.args.runs.now c.requires.pool c.requires.ahead

pub begin-requires-clause-rest : goal.begin-requires-clause-rest
begin-requires-clause-rest c =
    ahead-weaker (length c.args.pool.now.blocks) _ c.args.lba (drop 1 c.args.runs.now) c.requires.pool
    c.requires.rest

pub loop-i-init : goal.loop-i-init
loop-i-init c =
    let e = c.begin.ensures (length c.args.pool.now.blocks) c.requires.ahead in
    record {
      ahead = rw add-zero e.still_ahead;
      parts = (
        singles_of c.begin.result.0,
        e.parts,
        rw add-zero (between-front c.begin.result.0 c.args.lba e.before),
      );
      same = blocks-none (contents_of (singles c.args.runs.now) c.args.pool.now.blocks) c.args.lba
          ∙ sym (joined-none c.args.source.now);
    }

pub pass-found-requires-clause-ahead : goal.pass-found-requires-clause-ahead
pass-found-requires-clause-ahead c =
    let w = c.loop-i.walk in
    let here : c.args.lba + c.from.result ≡ c.args.lba + c.loop-i.i =
    ap (λ x. c.args.lba + x) c.from.ensures in
    rw here (ahead-weaker (length c.args.pool.now.blocks) _ (c.args.lba + c.loop-i.i)
    (ahead_of c.args.runs.now w.run w.at) c.requires.pool c.loop-i.invariant.ahead)

-- the block at an address is that of its record
block-there : (runs before more passed : List Run) (found : Option Run) (bs : List (List ℕ)) (lba : ℕ)
    → singles runs ≡ passed ++ singles before → AreBetween 0 lba passed
    → Passes (length bs) lba before found more
    → block (contents_of (singles runs) bs) lba
    ≡ data_in (option_map (λ (run : Run). mapping_in bs run.first run.kind) found)
block-there runs before more passed found bs lba parts between e =
    let still = between-singles more (lba + 1) max_capacity e.still_ahead.apart in
    ap (λ xs. block (contents_of xs bs) lba) (parts ∙ ap (λ xs. passed ++ xs) e.parts)
    ∙ block-found passed (singles more) found bs lba (length bs) max_capacity between still e.record_is

pub found_block-requires : goal.found_block-requires
found_block-requires c =
    let here : c.args.lba + c.from.result ≡ c.args.lba + c.loop-i.i =
    ap (λ x. c.args.lba + x) c.from.ensures in
    let e = (rw here at c.pass-found.ensures) (length c.args.pool.now.blocks) c.loop-i.invariant.ahead in
    record {
      slot = slot-found (c.args.lba + c.loop-i.i) (length c.args.pool.now.blocks) c.pass-found.result.0
          e.record_is;
    }

pub returns-in_err-compare : goal.returns-in_err-compare
returns-in_err-compare c =
    let i = c.loop-i.i in
    let lba = c.args.lba in
    let runs = c.args.runs.now in
    let bs = c.args.pool.now.blocks in
    let inv = c.loop-i.invariant in
    let here : lba + c.from.result ≡ lba + i = ap (λ x. lba + x) c.from.ensures in
    let e = (rw here at c.pass-found.ensures) (length bs) inv.ahead in
    let found = c.pass-found.result.0 in
    let before = ahead_of runs c.loop-i.walk.run c.loop-i.walk.at in
    let more = ahead_of runs c.pass-found.result.1.run c.pass-found.result.1.at in
    let there = block-there runs before more inv.parts.0 found bs (lba + i) inv.parts.1 inv.parts.2 e in
    let source = c.args.source.now in
    let p = err_from_is_err_and c.from_residual.result c.from_residual.ensures.1 in
    p.1 ∙ ap Err p.2
    ∙ compared-differs (contents_of (singles runs) bs) source lba i c.args.count _ c.loop-i-test.true
    c.requires.whole inv.same
    (ap (compared_at source i) (there ∙ sym c.found_block.ensures.block)
    ∙ sym c.compare.ensures.value ∙ c.in_err-compare.was)

pub loop-i-preserved : goal.loop-i-preserved
loop-i-preserved c =
    let i = c.loop-i.i in
    let lba = c.args.lba in
    let runs = c.args.runs.now in
    let bs = c.args.pool.now.blocks in
    let inv = c.loop-i.invariant in
    let here : lba + c.from.result ≡ lba + i = ap (λ x. lba + x) c.from.ensures in
    let on : lba + i + 1 ≡ lba + (i + 1) = omega arith in
    let e = (rw here at c.pass-found.ensures) (length bs) inv.ahead in
    let found = c.pass-found.result.0 in
    let before = ahead_of runs c.loop-i.walk.run c.loop-i.walk.at in
    let more = ahead_of runs c.pass-found.result.1.run c.pass-found.result.1.at in
    let passed = inv.parts.0 in
    let there = block-there runs before more passed found bs (lba + i) inv.parts.1 inv.parts.2 e in
    record {
      ahead = rw on at e.still_ahead;
      parts = (
        passed ++ option_to_list found,
        inv.parts.1 ∙ ap (λ xs. passed ++ xs) e.parts
            ∙ sym (append_assoc passed (option_to_list found) (singles more)),
        rw on at (between-append passed (option_to_list found) 0 (lba + i) (lba + i + 1) inv.parts.2
            (between-found (lba + i) (length bs) found e.record_is)),
      );
      same = same-more (contents_of (singles runs) bs) c.args.source.now lba i inv.same
          (there ∙ sym c.found_block.ensures.block ∙ c.in_ok-compare.ensures.same);
    }

pub returns : goal.returns
returns c =
    let contents = contents_of (singles c.args.runs.now) c.args.pool.now.blocks in
    let all : c.loop-i.i ≡ c.args.count = omega (arith, c.loop-i-test.false) in
    compared-same _ _ (rw all at c.loop-i.invariant.same)
