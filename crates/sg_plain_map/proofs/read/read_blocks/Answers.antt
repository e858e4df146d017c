use Rattle.std.proofs.Common.{◌≡◌, ◌+◌, ◌*◌, length, ap, ap₂, sym, ◌∙◌, arith, ◌++◌, add-zero}
use Rattle.std.proofs.lemmas.Slice.{take-put_mid}
use Rattle.sg_store.specs.Disk.{block, used_among}
use Rattle.sg_pool.specs.MappedRecords.{contents_of}
use Rattle.sg_table.specs.Records.{ahead}
use Rattle.sg_table.specs.Table.{Table, visited}
use Rattle.sg_store.proofs.DiskLemmas.{blocks-none, blocks-more, used_among-none}
use Rattle.sg_store.proofs.DiskLemmas.{used_among-more, used_among-le}
use Rattle.sg_pool.proofs.ConsistencyLemmas.{have_slots}
use Rattle.sg_table.proofs.TableLemmas.{visited-more, visited-less, ahead-le}
use Rattle.sg_plain_map.proofs.read.read_blocks.Goals as goal

pub loop-i-init : goal.loop-i-init
loop-i-init c =
    let contents = contents_of c.args.table.now.records c.args.pool.now.blocks in
    let e = c.new-cursor.ensures in
    record {
      cursor = record { index = rw (add-zero, e.index) c.requires.ready.index; next = rw e.index e.next };
      bytes = sym (blocks-none contents c.args.lba);
      table = e.table ∙ ap (visited c.args.table.now) (omega (arith, used_among-none contents c.args.lba));
    }

pub read_block-cursor-requires-clause-readable : goal.read_block-cursor-requires-clause-readable
read_block-cursor-requires-clause-readable c =
    let t = c.args.table.now in
    let slots = c.args.pool.now in
    let ready = c.requires.ready in
    rw c.loop-i.invariant.table (record {
      sorted = ready.consistent.sorted;
      have_slots = have_slots t.records slots.blocks slots.free t.room ready.consistent;
      table_size = omega (arith, ready.consistent.count, ready.table_size);
    })

pub read_block-cursor-requires-clause-headroom : goal.read_block-cursor-requires-clause-headroom
read_block-cursor-requires-clause-headroom c =
    let contents = contents_of c.args.table.now.records c.args.pool.now.blocks in
    let visits = ap (λ (t : Table). t.visits) c.loop-i.invariant.table in
    omega (arith, used_among-le contents c.args.lba c.loop-i.i, ahead-le c.loop-i.cursor.next)

pub loop-i-preserved : goal.loop-i-preserved
loop-i-preserved c =
    let t = c.args.table.now in
    let contents = contents_of t.records c.args.pool.now.blocks in
    let inv = c.loop-i.invariant in
    let i = c.loop-i.i in
    let e = c.read_block-cursor.ensures in
    let read = c.read_block-cursor.new.bytes in
    let here : c.args.lba + c.from.result ≡ c.args.lba + i = ap (λ x. c.args.lba + x) c.from.ensures in
    let on : c.args.lba + i + 1 ≡ c.args.lba + (i + 1) = omega arith in
    let block_read : read ≡ block contents (c.args.lba + i) = rw (inv.table, here) at e.bytes in
    let len : length read ≡ 512 = omega (arith, c.read_block-cursor.auto.bytes) in
    let before = used_among contents c.args.lba i + ahead c.loop-i.cursor.next in
    let passed = c.loop-i.cursor.index + ahead c.loop-i.cursor.next in
    let after = c.read_block-cursor.result.index + ahead c.read_block-cursor.result.next in
    let index = rw (inv.table, here) at e.index in
    let paid : visited c.read_block-cursor.new.table passed ≡ visited t (before + after) =
    rw inv.table at e.cost ∙ visited-more t before after in
    record {
      cursor = rw (inv.table, here, on) at e.cursor;
      bytes = take-put_mid (512 * i) _ c.loop-i.bytes read (512 * (i + 1)) (omega arith)
          (omega (arith, c.loop-i.auto.bytes))
          ∙ ap₂ (λ xs ys. xs ++ ys) inv.bytes block_read ∙ sym (blocks-more contents c.args.lba i);
      table = visited-less c.read_block-cursor.new.table t passed (before + after) _ paid
          (omega (arith, index, used_among-more contents c.args.lba i));
    }
