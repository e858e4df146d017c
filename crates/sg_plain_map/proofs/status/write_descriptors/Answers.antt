use Rattle.std.proofs.Common.{◌≡◌, ◌+◌, ◌-◌, [], ap, sym, ◌∙◌, arith, inl, inr}
use Rattle.sg_wire.specs.Cut.{answer_of}
use Rattle.sg_store.specs.LbaStatus.{covered, descriptors_from}
use Rattle.sg_pool.specs.MappedRecords.{contents_of}
use Rattle.sg_table.specs.Records.{ahead, passed}
use Rattle.sg_table.specs.Table.{visited}
use Rattle.sg_table.proofs.TableLemmas.{visited-more, visited-less}
use Rattle.sg_store.proofs.StatusLemmas.{none-written, one-written, all-written}
use Rattle.sg_plain_map.proofs.RangeLemmas.{used_among-indices}
use Rattle.sg_plain_map.proofs.DescribedLemmas.{visits-so_far}
use Rattle.sg_plain_map.proofs.status.write_descriptors.Goals as goal

pub loop-next-init : goal.loop-next-init
loop-next-init c =
    let e = c.new-cursor.ensures in
    let seen = ahead c.new-cursor.result.next in
    let none : c.new-cursor.result.index - c.args.from + seen ≡ seen = omega (arith, e.index) in
    record {
      order = omega (arith, e.index);
      cursor = record { index = rw e.index c.requires.index; next = rw e.index e.next };
      room = omega arith;
      written = λ blocks. none-written c.parts_are_put_in_turn.ensures
          (contents_of c.args.table.now.records blocks) c.args.capacity c.args.lba c.args.cut.now;
      table = e.table ∙ ap (visited c.args.table.now) (sym none);
    }

pub loop-next-preserved : goal.loop-next-preserved
loop-next-preserved c =
    let t = c.args.table.now in
    let rs = t.records in
    let inv = c.loop-next.invariant in
    let e = c.describe.ensures in
    let d = c.describe.result.0 in
    let end = c.describe.result.1 in
    let next = c.loop-next.next in
    let at = rw inv.table at e.cursor in
    let order = used_among-indices rs [] c.loop-next.cursor.index next d.count
    end.index c.requires.table.sorted inv.cursor.index at.index in
    let before = c.loop-next.cursor.index - c.args.from + ahead c.loop-next.cursor.next in
    let paid : visited c.describe.new.table (passed c.loop-next.cursor) ≡
    visited t (before + passed end) = rw inv.table at e.cost
    ∙ visited-more t before (passed end) in
    let on : next + c.from-next.result ≡ next + d.count = ap (λ k. next + k) c.from-next.ensures in
    record {
      order = omega (arith, order, inv.order);
      cursor = rw on at;
      room = omega (arith, c.if-count-lt-MAX_DESCRIPTORS.true);
      written = λ blocks. rw on (one-written c.parts_are_put_in_turn.ensures
          (contents_of rs blocks) c.args.capacity c.args.lba (answer_of c.args.cut.now) _ _
          c.loop-next.count next d c.bytes.result (inv.written blocks) c.loop-next-test.true
          c.if-count-lt-MAX_DESCRIPTORS.true (rw inv.table at e.descriptor blocks) c.bytes.ensures
          c.put.ensures);
      table = visited-less c.describe.new.table t (passed c.loop-next.cursor)
          (before + passed end) _ paid (omega (arith, order, inv.order));
    }

pub returns-else-count-lt-MAX_DESCRIPTORS-clause-descriptors :
    goal.returns-else-count-lt-MAX_DESCRIPTORS-clause-descriptors
returns-else-count-lt-MAX_DESCRIPTORS-clause-descriptors c = λ blocks.
    let all = all-written (contents_of c.args.table.now.records blocks) c.args.capacity c.args.lba
    (answer_of c.args.cut.now) _ c.loop-next.count c.loop-next.next
    (c.loop-next.invariant.written blocks) (inr c.if-count-lt-MAX_DESCRIPTORS.false) in
    record { bytes = all.bytes; count_is = all.count_is }

pub returns-else-count-lt-MAX_DESCRIPTORS-clause-visits :
    goal.returns-else-count-lt-MAX_DESCRIPTORS-clause-visits
returns-else-count-lt-MAX_DESCRIPTORS-clause-visits c = λ blocks.
    let rs = c.args.table.now.records in
    let inv = c.loop-next.invariant in
    let all = all-written (contents_of rs blocks) c.args.capacity c.args.lba
    (answer_of c.args.cut.now) _ c.loop-next.count c.loop-next.next (inv.written blocks)
    (inr c.if-count-lt-MAX_DESCRIPTORS.false) in
    visits-so_far rs blocks c.args.from c.args.lba
    (covered (descriptors_from (contents_of rs blocks) c.args.capacity c.args.lba 512))
    c.loop-next.cursor c.loop-next.next c.args.table.now c.loop-next.table
    c.requires.table.sorted c.requires.index inv.cursor all.reached inv.table

pub returns-after-loop-next-clause-descriptors :
    goal.returns-after-loop-next-clause-descriptors
returns-after-loop-next-clause-descriptors c = λ blocks.
    let all = all-written (contents_of c.args.table.now.records blocks) c.args.capacity c.args.lba
    (answer_of c.args.cut.now) _ c.loop-next.count c.loop-next.next
    (c.loop-next.invariant.written blocks) (inl c.loop-next-test.false) in
    record { bytes = all.bytes; count_is = all.count_is }

pub returns-after-loop-next-clause-visits :
    goal.returns-after-loop-next-clause-visits
returns-after-loop-next-clause-visits c = λ blocks.
    let rs = c.args.table.now.records in
    let inv = c.loop-next.invariant in
    let all = all-written (contents_of rs blocks) c.args.capacity c.args.lba
    (answer_of c.args.cut.now) _ c.loop-next.count c.loop-next.next (inv.written blocks)
    (inl c.loop-next-test.false) in
    visits-so_far rs blocks c.args.from c.args.lba
    (covered (descriptors_from (contents_of rs blocks) c.args.capacity c.args.lba 512))
    c.loop-next.cursor c.loop-next.next c.args.table.now c.loop-next.table
    c.requires.table.sorted c.requires.index inv.cursor all.reached inv.table
