use Rattle.std.proofs.Common.{◌≡◌, ℕ, ◌+◌, ◌-◌, ◌≤◌, ◌<◌, zero, suc, ap, sym, ◌∙◌, arith, add-zero}
use Rattle.std.specs.Prelude.{Err}
use Rattle.std.proofs.lemmas.Result.{err_from_is_err_and}
use Rattle.sg_store.specs.Disk.{Contents, used_among, used_at}
use Rattle.sg_pool.specs.Comparison.{compared_at}
use Rattle.sg_pool.specs.MappedRecords.{contents_of}
use Rattle.sg_table.specs.Records.{ahead, passed}
use Rattle.sg_table.specs.Table.{Table, visited}
use Rattle.sg_table.specs.declared.cursor.Cursor.{Cursor}
use Rattle.sg_store.proofs.DiskLemmas.{blocks-none, used_among-none}
use Rattle.sg_store.proofs.DiskLemmas.{used_among-more, used_among-le}
use Rattle.sg_pool.proofs.ComparisonLemmas.{compared-differs, compared-same, joined-none, same-more}
use Rattle.sg_pool.proofs.ConsistencyLemmas.{have_slots}
use Rattle.sg_table.proofs.TableLemmas.{visited-more, visited-less, ahead-le}
use Rattle.sg_plain_map.proofs.compare.compare_blocks.Goals.{After-from_residual}
use Rattle.sg_plain_map.proofs.compare.compare_blocks.Goals as goal

-- a longer range has as many used addresses at least
used-longer : (contents : Contents) (lba i d : ℕ)
    → used_among contents lba i ≤ used_among contents lba (i + d)
used-longer contents lba i zero = let e : i + 0 ≡ i = omega arith in rw e (omega arith)
used-longer contents lba i (suc d) =
    let e : i + suc d ≡ i + d + 1 = omega arith in
    rw e (omega (arith, used_among-more contents lba (i + d), used-longer contents lba i d))

used-within : (contents : Contents) (lba i count : ℕ) → i < count
    → used_among contents lba (i + 1) ≤ used_among contents lba count
used-within contents lba i count lt =
    let e : count ≡ i + 1 + (count - (i + 1)) = omega arith in
    rw e (used-longer contents lba (i + 1) (count - (i + 1)))

-- the visits up to the next address
one-more : (t u v : Table) (cursor next : Cursor) (contents : Contents) (lba i : ℕ)
    → u ≡ visited t (used_among contents lba i + ahead cursor.next)
    → next.index ≡ cursor.index + used_at contents (lba + i)
    → visited v (passed cursor) ≡ visited u (passed next)
    → v ≡ visited t (used_among contents lba (i + 1) + ahead next.next)
one-more t u v cursor next contents lba i table index cost =
    let before = used_among contents lba i + ahead cursor.next in
    let after = passed next in
    visited-less v t (passed cursor) (before + after) _
    (cost ∙ ap (λ x. visited x after) table ∙ visited-more t before after)
    (omega (arith, index, used_among-more contents lba i))

pub loop-i-init : goal.loop-i-init
loop-i-init c =
    let contents = contents_of c.args.table.now.records c.args.pool.now.blocks in
    let e = c.new-cursor.ensures in
    record {
      cursor = record { index = rw (add-zero, e.index) c.requires.ready.index; next = rw e.index e.next };
      same = blocks-none contents c.args.lba ∙ sym (joined-none c.args.source.now);
      table = e.table ∙ ap (visited c.args.table.now) (omega (arith, used_among-none contents c.args.lba));
    }

pub find_block-requires-clause-readable : goal.find_block-requires-clause-readable
find_block-requires-clause-readable c =
    let t = c.args.table.now in
    let slots = c.args.pool.now in
    let ready = c.requires.ready in
    rw c.loop-i.invariant.table (record {
      sorted = ready.consistent.sorted;
      have_slots = have_slots t.records slots.blocks slots.free t.room ready.consistent;
      table_size = omega (arith, ready.consistent.count, ready.table_size);
    })

pub find_block-requires-clause-headroom : goal.find_block-requires-clause-headroom
find_block-requires-clause-headroom c =
    let contents = contents_of c.args.table.now.records c.args.pool.now.blocks in
    let visits = ap (λ (t : Table). t.visits) c.loop-i.invariant.table in
    omega (arith, used_among-le contents c.args.lba c.loop-i.i, ahead-le c.loop-i.cursor.next)

pub returns-in_err-compare-clause-value : goal.returns-in_err-compare-clause-value
returns-in_err-compare-clause-value c =
    let contents = contents_of c.args.table.now.records c.args.pool.now.blocks in
    let inv = c.loop-i.invariant in
    let i = c.loop-i.i in
    let lba = c.args.lba in
    let source = c.args.source.now in
    let here : lba + c.from.result ≡ lba + i = ap (λ x. lba + x) c.from.ensures in
    let there = rw (inv.table, here) at c.find_block.ensures.block in
    let p = err_from_is_err_and c.from_residual.result c.from_residual.ensures.1 in
    p.1 ∙ ap Err p.2
    ∙ compared-differs contents source lba i c.args.count _ c.loop-i-test.true c.requires.whole
    inv.same (ap (compared_at source i) (sym there) ∙ sym c.compare.ensures.value ∙ c.in_err-compare.was)

-- the visits up to the address where a byte differs
counted : (c : After-from_residual) → c.find_block.new.table
    ≡ visited c.args.table.now (used_among (contents_of c.args.table.now.records c.args.pool.now.blocks)
    c.args.lba (c.loop-i.i + 1) + ahead c.find_block.result.1.next)
counted c =
    let t = c.args.table.now in
    let inv = c.loop-i.invariant in
    let here : c.args.lba + c.from.result ≡ c.args.lba + c.loop-i.i =
    ap (λ x. c.args.lba + x) c.from.ensures in
    one-more t c.loop-i.table c.find_block.new.table c.loop-i.cursor c.find_block.result.1
    (contents_of t.records c.args.pool.now.blocks) c.args.lba c.loop-i.i inv.table
    (rw (inv.table, here) at c.find_block.ensures.index) c.find_block.ensures.cost

pub returns-in_err-compare-clause-table : goal.returns-in_err-compare-clause-table
returns-in_err-compare-clause-table c =
    let total = ap (λ (t : Table). t.total) (counted c) in
    counted c ∙ ap (visited c.args.table.now) (omega (arith, total))

pub returns-in_err-compare-clause-rise : goal.returns-in_err-compare-clause-rise
returns-in_err-compare-clause-rise c = omega (arith, ap (λ (t : Table). t.total) (counted c))

pub returns-in_err-compare-clause-price : goal.returns-in_err-compare-clause-price
returns-in_err-compare-clause-price c =
    let contents = contents_of c.args.table.now.records c.args.pool.now.blocks in
    omega (
      arith,
      ap (λ (t : Table). t.total) (counted c),
      used-within contents c.args.lba c.loop-i.i c.args.count c.loop-i-test.true,
      ahead-le c.find_block.result.1.next,
    )

pub loop-i-preserved : goal.loop-i-preserved
loop-i-preserved c =
    let t = c.args.table.now in
    let contents = contents_of t.records c.args.pool.now.blocks in
    let inv = c.loop-i.invariant in
    let i = c.loop-i.i in
    let lba = c.args.lba in
    let e = c.find_block.ensures in
    let here : lba + c.from.result ≡ lba + i = ap (λ x. lba + x) c.from.ensures in
    let on : lba + i + 1 ≡ lba + (i + 1) = omega arith in
    let there = rw (inv.table, here) at e.block in
    record {
      cursor = rw (inv.table, here, on) at e.cursor;
      same = same-more contents c.args.source.now lba i inv.same
          (sym there ∙ c.in_ok-compare.ensures.same);
      table = one-more t c.loop-i.table c.find_block.new.table c.loop-i.cursor
          c.find_block.result.1 contents lba i inv.table (rw (inv.table, here) at e.index) e.cost;
    }

pub returns-clause-value : goal.returns-clause-value
returns-clause-value c =
    let all : c.loop-i.i ≡ c.args.count = omega (arith, c.loop-i-test.false) in
    compared-same _ _ (rw all at c.loop-i.invariant.same)
