use Rattle.std.proofs.Common.{◌≡◌, ◌+◌, ◌-◌, ap, ap₂, sym, ◌∙◌, arith, refl, []}
use Rattle.std.proofs.lemmas.Bool.{and_parts}
use Rattle.std.proofs.lemmas.List.{take-append-drop}
use Rattle.std.specs.List.{splice}
use Rattle.sg_store.specs.Disk.{used_among}
use Rattle.sg_pool.specs.MappedRecords.{contents_of}
use Rattle.sg_store.specs.Disk.{used_at}
use Rattle.sg_pool.specs.Content.{mapping_for}
use Rattle.sg_plain_map.proofs.CursorLemmas.{of_kind-some}
use Rattle.sg_table.specs.Records.{ahead, run_at}
use Rattle.sg_table.specs.Table.{visited}
use Rattle.sg_store.proofs.DiskLemmas.{remapped-none, remapped-more, used_among-none}
use Rattle.sg_store.proofs.DiskLemmas.{used_among-more, used_among-rest, used_at-past}
use Rattle.sg_table.proofs.TableLemmas.{visited-more, visited-less}
use Rattle.sg_plain_map.proofs.write.put_range.Goals as goal

pub loop-i-init : goal.loop-i-init
loop-i-init c =
    let t = c.args.table.now in
    let contents = contents_of t.records c.args.pool.now.blocks in
    let e = c.new-cursor.ensures in
    let whole : splice t.records c.args.from c.args.from [] ≡ t.records =
    take-append-drop c.args.from t.records in
    let none = used_among-none contents c.args.range.lba in
    let begin : c.args.from + 0 ≡ c.args.from = omega arith in
    let first : c.args.range.lba + 0 ≡ c.args.range.lba = omega arith in
    record {
      editing = rw c.begin.ensures (record {
        single = rw (e.index, whole) c.requires.ready.single;
        consistent = rw (e.index, whole) c.requires.ready.consistent;
        within = (omega (arith, e.index), omega (arith, e.index, c.requires.ready.index.within));
        next = rw e.index e.next;
        index = rw (e.index, whole, begin, first) c.requires.ready.index;
      });
      contents = rw (c.begin.ensures, e.index, whole)
          (sym (remapped-none contents c.args.range.lba (mapping_for c.args.content.now)));
      draft = rw c.begin.ensures (refl, refl, c.requires.room.1);
      index = omega (arith, e.index, none);
      same = λ _. rw (c.begin.ensures, e.index, whole) refl;
      free = omega (arith, none);
      table = e.table ∙ ap (visited t) (omega (arith, none));
    }

pub put_address-cursor-requires-clause-room : goal.put_address-cursor-requires-clause-room
put_address-cursor-requires-clause-room c =
    let t = c.args.table.now in
    let contents = contents_of t.records c.args.pool.now.blocks in
    let inv = c.loop-i.invariant in
    let i = c.loop-i.i in
    let here : c.args.range.lba + c.from.result ≡ c.args.range.lba + i =
    ap (λ x. c.args.range.lba + x) c.from.ensures in
    let same = ap₂ used_at inv.contents here
    ∙ used_at-past contents c.args.range.lba i (mapping_for c.args.content.now) in
    let on : i + 1 + (c.args.range.count - (i + 1)) ≡ c.args.range.count = omega arith in
    let rest = rw on at (used_among-rest contents c.args.range.lba (i + 1) (c.args.range.count - (i + 1))) in
    record {
      draft_room = omega (arith, inv.draft, c.requires.room);
      free = rw (inv.table, same) (omega (
        arith,
        inv.free,
        c.requires.free,
        used_among-more contents c.args.range.lba i,
      ));
      table_size = rw inv.table (omega (
        arith,
        c.requires.ready.consistent.count,
        c.requires.ready.table_size,
      ));
    }

pub loop-i-preserved : goal.loop-i-preserved
loop-i-preserved c =
    let t = c.args.table.now in
    let contents = contents_of t.records c.args.pool.now.blocks in
    let inv = c.loop-i.invariant in
    let i = c.loop-i.i in
    let e = c.put_address-cursor.ensures in
    let here : c.args.range.lba + c.from.result ≡ c.args.range.lba + i =
    ap (λ x. c.args.range.lba + x) c.from.ensures in
    let on : c.args.range.lba + i + 1 ≡ c.args.range.lba + (i + 1) = omega arith in
    let same = ap₂ used_at inv.contents here
    ∙ used_at-past contents c.args.range.lba i (mapping_for c.args.content.now) in
    let drafts = rw (inv.table, same) at e.drafts in
    let index = drafts.index in
    let address = c.args.range.lba + c.from.result in
    let before = used_among contents c.args.range.lba i + ahead c.loop-i.cursor.next in
    let passed = c.loop-i.cursor.index + ahead c.loop-i.cursor.next in
    let after = c.put_address-cursor.result.index + ahead c.put_address-cursor.result.next in
    let more = used_among-more contents c.args.range.lba i in
    let paid : visited c.put_address-cursor.new.table passed ≡ visited t (before + after) =
    rw inv.table at e.cost ∙ visited-more t before after in
    record {
      editing = rw (inv.table, here, on) at e.editing;
      contents = rw inv.table at e.contents
          ∙ rw (inv.contents, here)
          (sym (remapped-more contents c.args.range.lba i (mapping_for c.args.content.now)));
      draft = (
        drafts.from ∙ inv.draft.0,
        omega (arith, drafts.drafted, inv.draft.1),
        drafts.room ∙ inv.draft.2,
      );
      index = omega (arith, index, inv.index, more);
      same = λ all.
          let each = and_parts c.loop-i.same c.keeps_record-same.result all in
          let run = of_kind-some c.kind-kind.result (run_at c.loop-i.cursor.next address)
          (sym c.keeps_record-same.ensures ∙ each.1) in
          drafts.same run.0 run.1 (run.2 ∙ c.kind-kind.ensures) ∙ inv.same each.0;
      free = omega (arith, drafts.free, index, inv.free, more);
      table = visited-less c.put_address-cursor.new.table t passed (before + after) _ paid
          (omega (arith, index, more));
    }
