use Rattle.std.proofs.Common.{◌≡◌, ◌+◌, ◌*◌, ◌++◌, List, drop, length, arith, ap, ap₂, sym, ◌∙◌}
use Rattle.std.proofs.Common.{add-zero, append_assoc}
use Rattle.std.proofs.lemmas.Slice.{take-put_mid}
use Rattle.std.specs.Prelude.{option_to_list}
use Rattle.sg_store.specs.Disk.{block, max_capacity}
use Rattle.sg_pool.specs.MappedRecords.{contents_of}
use Rattle.sg_store.proofs.DiskLemmas.{blocks-none, blocks-more}
use Rattle.sg_table.specs.declared.run.Run.{Run}
use Rattle.sg_extent_map.specs.Extents.{singles, singles_of}
use Rattle.sg_extent_map.specs.Walking.{ahead_of}
use Rattle.sg_extent_map.proofs.BetweenLemmas.{between-singles}
use Rattle.sg_pool.proofs.RisingLemmas.{between-append}
use Rattle.sg_extent_map.proofs.WalkLemmas.{ahead-weaker, between-found, between-front, block-found}
use Rattle.sg_extent_map.proofs.WalkLemmas.{slot-found}
use Rattle.sg_extent_map.proofs.read.read_runs.Goals as goal

pub begin-requires-clause-ahead : goal.begin-requires-clause-ahead
begin-requires-clause-ahead c =
    ahead-weaker (length c.args.pool.now.blocks) _ 0 c.args.runs.now c.requires.pool c.requires.ahead

pub begin-requires-clause-rest : goal.begin-requires-clause-rest
begin-requires-clause-rest c =
    ahead-weaker (length c.args.pool.now.blocks) _ c.args.lba (drop 1 c.args.runs.now) c.requires.pool
    c.requires.rest

pub loop-i-init : goal.loop-i-init
loop-i-init c =
    let e = c.begin.ensures (length c.args.pool.now.blocks) c.requires.ahead in
    record {
      ahead = rw add-zero e.still_ahead;
      parts = (
        singles_of c.begin.result.0,
        e.parts,
        rw add-zero (between-front c.begin.result.0 c.args.lba e.before),
      );
      bytes = sym (blocks-none (contents_of (singles c.args.runs.now) c.args.pool.now.blocks) c.args.lba);
    }

pub pass-found-requires-clause-ahead : goal.pass-found-requires-clause-ahead
pass-found-requires-clause-ahead c =
    let w = c.loop-i.walk in
    let here : c.args.lba + c.from.result ≡ c.args.lba + c.loop-i.i =
    ap (λ x. c.args.lba + x) c.from.ensures in
    rw here (ahead-weaker (length c.args.pool.now.blocks) _ (c.args.lba + c.loop-i.i)
    (ahead_of c.args.runs.now w.run w.at) c.requires.pool c.loop-i.invariant.ahead)

pub read_found-requires-clause-slot : goal.read_found-requires-clause-slot
read_found-requires-clause-slot c =
    let w = c.loop-i.walk in
    let here : c.args.lba + c.from.result ≡ c.args.lba + c.loop-i.i =
    ap (λ x. c.args.lba + x) c.from.ensures in
    let e = (rw here at c.pass-found.ensures) (length c.args.pool.now.blocks) c.loop-i.invariant.ahead in
    slot-found (c.args.lba + c.loop-i.i) (length c.args.pool.now.blocks) c.pass-found.result.0 e.record_is

pub loop-i-preserved : goal.loop-i-preserved
loop-i-preserved c =
    let w = c.loop-i.walk in
    let i = c.loop-i.i in
    let lba = c.args.lba in
    let runs = c.args.runs.now in
    let bs = c.args.pool.now.blocks in
    let inv = c.loop-i.invariant in
    let here : lba + c.from.result ≡ lba + i = ap (λ x. lba + x) c.from.ensures in
    let on : lba + i + 1 ≡ lba + (i + 1) = omega arith in
    let e = (rw here at c.pass-found.ensures) (length bs) inv.ahead in
    let found = c.pass-found.result.0 in
    let more : List Run = ahead_of runs c.pass-found.result.1.run c.pass-found.result.1.at in
    let passed = inv.parts.0 in
    let parts : singles runs ≡ passed ++ (option_to_list found ++ singles more) =
    inv.parts.1 ∙ ap (λ xs. passed ++ xs) e.parts in
    let here_found = between-found (lba + i) (length bs) found e.record_is in
    let still = between-singles more (lba + i + 1) max_capacity e.still_ahead.apart in
    let read = c.read_found.new.bytes in
    let len : length read ≡ 512 = omega (arith, c.read_found.auto.bytes) in
    let block_read : read ≡ block (contents_of (singles runs) bs) (lba + i) =
    c.read_found.ensures ∙ sym (ap (λ xs. block (contents_of xs bs) (lba + i)) parts
    ∙ block-found passed (singles more) found bs (lba + i) (length bs) max_capacity inv.parts.2 still
    e.record_is) in
    record {
      ahead = rw on at e.still_ahead;
      parts = (
        passed ++ option_to_list found,
        parts ∙ sym (append_assoc passed (option_to_list found) (singles more)),
        rw on at (between-append passed (option_to_list found) 0 (lba + i) (lba + i + 1) inv.parts.2
            here_found),
      );
      bytes = take-put_mid (512 * i) _ c.loop-i.bytes read (512 * (i + 1)) (omega arith)
          (omega (arith, c.loop-i.auto.bytes))
          ∙ ap₂ (λ xs ys. xs ++ ys) inv.bytes block_read
          ∙ sym (blocks-more (contents_of (singles runs) bs) lba i);
    }
