use Rattle.std.proofs.Common.{◌≡◌, ◌+◌, ◌-◌, ◌≤◌, ℕ, List}
use Rattle.std.proofs.Common.{Option, length, ap, refl, arith, inl, inr}
use Rattle.sg_wire.specs.Cut.{answer_of}
use Rattle.sg_store.specs.Disk.{used_among}
use Rattle.sg_pool.specs.MappedRecords.{contents_of}
use Rattle.sg_table.specs.Records.{ahead, passed, IsNext}
use Rattle.sg_table.specs.Table.{Table, visited}
use Rattle.sg_table.specs.declared.cursor.Cursor.{Cursor}
use Rattle.sg_table.specs.declared.run.Run.{Run}
use Rattle.sg_extent_map.specs.Extents.{singles}
use Rattle.sg_extent_map.specs.Status.{IsOver}
use Rattle.sg_store.proofs.StatusLemmas.{none-written, one-written, all-written}
use Rattle.sg_table.proofs.TableLemmas.{ahead-le, visited-less}
use Rattle.sg_extent_map.proofs.StatusLemmas.{visited-trade, ahead-is, records-fit}
use Rattle.sg_extent_map.specs.ExtentCost.{used-append}
use Rattle.sg_extent_map.proofs.status.write_descriptors.Goals as goal

pub loop-next-init : goal.loop-next-init
loop-next-init c = record {
  low = omega arith;
  order = omega arith;
  cursor = c.requires.cursor;
  room = omega arith;
  written = λ blocks. none-written c.parts_are_put_in_turn.ensures
      (contents_of (singles c.args.table.now.records) blocks) c.args.capacity c.args.lba c.args.cut.now;
  few = λ blocks. omega arith;
  table = refl;
}

pub describe-requires-clause-cursor : goal.describe-requires-clause-cursor
describe-requires-clause-cursor c =
    let same = ap (λ (t : Table). t.records) c.loop-next.invariant.table in
    rw same c.loop-next.invariant.cursor

pub describe-requires-clause-table : goal.describe-requires-clause-table
describe-requires-clause-table c =
    let same = ap (λ (t : Table). t.records) c.loop-next.invariant.table in
    rw same c.requires.table

pub describe-requires-clause-headroom : goal.describe-requires-clause-headroom
describe-requires-clause-headroom c =
    let inv = c.loop-next.invariant in
    let visits = ap (λ (t : Table). t.visits) inv.table in
    let fit = records-fit c.args.capacity c.args.table.now.records c.requires.table in
    let one = ahead-le c.loop-next.cursor.next in
    omega (arith, visits, fit, one, inv.cursor.within, c.requires.headroom)

pub loop-next-preserved : goal.loop-next-preserved
loop-next-preserved c =
    let rs = c.args.table.now.records in
    let inv = c.loop-next.invariant in
    let e = c.describe.ensures in
    let d = c.describe.result.0 in
    let next = c.loop-next.next in
    let lba = c.args.lba in
    let same : c.loop-next.table.records ≡ rs = ap (λ (t : Table). t.records) inv.table in
    let on : next + c.from-next.result ≡ next + d.count = ap (λ k. next + k) c.from-next.ensures in
    rw on (record {
      low = omega (arith, inv.low);
      order = omega (arith, inv.order, e.order);
      cursor = rw same at e.cursor;
      room = omega (arith, c.if-count-lt-MAX_DESCRIPTORS.true);
      written = λ blocks. one-written c.parts_are_put_in_turn.ensures
          (contents_of (singles rs) blocks) c.args.capacity c.args.lba (answer_of c.args.cut.now) _ _
          c.loop-next.count next d c.bytes.result (inv.written blocks) c.loop-next-test.true
          c.if-count-lt-MAX_DESCRIPTORS.true (rw same at (e.descriptor blocks)) c.bytes.ensures
          c.put.ensures;
      few = λ blocks.
          let m = contents_of (singles rs) blocks in
          let more = rw same at (e.passed blocks) in
          let here : lba + (next - lba) ≡ next = omega (arith, inv.low) in
          let all : next + d.count - lba ≡ next - lba + d.count = omega (arith, inv.low) in
          let sum = used-append m lba (next - lba) d.count in
          let at = ap (λ q. used_among m q d.count) here in
          rw all (omega (arith, inv.few blocks, more, sum, at));
      table = visited-trade c.args.table.now c.loop-next.table c.describe.new.table
          (passed c.args.cursor)
          (passed c.loop-next.cursor) (passed c.describe.result.1) e.cost inv.table;
    })

-- the runs that the cursor passes are visited
only-more : (rs : List Run) (from to : ℕ) (next next' : Option Run) → IsNext rs from next
    → from ≤ length rs → IsNext rs to next' → to ≤ length rs → from ≤ to
    → from + ahead next ≤ to + ahead next'
only-more rs from to next next' at within at' within' order =
    omega (arith, order, ahead-is rs from next at within, ahead-is rs to next' at' within')

visits-paid : (rs : List Run) (cursor end : Cursor) (lba next : ℕ) (t u : Table)
    → IsOver rs cursor lba → IsOver rs end next → cursor.index ≤ end.index
    → visited u (passed cursor) ≡ visited t (passed end)
    → (u ≡ visited t (u.total - t.total)) × (t.total ≤ u.total)
    × (u.total + (cursor.index + ahead cursor.next) ≡ t.total + (end.index + ahead end.next))
visits-paid rs cursor end lba next t u from to order paid =
    let total : u.total + passed cursor ≡ t.total + passed end =
    ap (λ (x : Table). x.total) paid in
    let rises = only-more rs cursor.index end.index cursor.next end.next from.next from.within to.next
    to.within order in (
      visited-less u t (passed cursor) (passed end) (u.total - t.total) paid
          (omega (arith, total, rises)),
      omega (arith, total, rises),
      total,
    )

-- the visits to the extents of the addresses that are covered
visits-covered : (rs : List Run) (blocks : List (List ℕ)) (cursor end : Cursor) (lba next n : ℕ)
    (t u : Table) → IsOver rs cursor lba → IsOver rs end next → cursor.index ≤ end.index
    → visited u (passed cursor) ≡ visited t (passed end) → next ≡ lba + n
    → end.index ≤ cursor.index + used_among (contents_of (singles rs) blocks) lba (next - lba)
    → u.total + ahead cursor.next
    ≤ t.total + used_among (contents_of (singles rs) blocks) lba n + 1
visits-covered rs blocks cursor end lba next n t u from to order paid is few =
    let v = visits-paid rs cursor end lba next t u from to order paid in
    let one = ahead-le end.next in
    let all : next - lba ≡ n = omega arith in
    let few' = rw all at few in
    omega (arith, v.2, few', one)

pub returns-else-count-lt-MAX_DESCRIPTORS-clause-descriptors :
    goal.returns-else-count-lt-MAX_DESCRIPTORS-clause-descriptors
returns-else-count-lt-MAX_DESCRIPTORS-clause-descriptors c = λ blocks.
    let all = all-written (contents_of (singles c.args.table.now.records) blocks) c.args.capacity
    c.args.lba (answer_of c.args.cut.now) _ c.loop-next.count c.loop-next.next
    (c.loop-next.invariant.written blocks) (inr c.if-count-lt-MAX_DESCRIPTORS.false) in
    record { bytes = all.bytes; count_is = all.count_is }

pub returns-else-count-lt-MAX_DESCRIPTORS-clause-visits :
    goal.returns-else-count-lt-MAX_DESCRIPTORS-clause-visits
returns-else-count-lt-MAX_DESCRIPTORS-clause-visits c = λ blocks.
    let rs = c.args.table.now.records in
    let inv = c.loop-next.invariant in
    let all = all-written (contents_of (singles rs) blocks) c.args.capacity c.args.lba
    (answer_of c.args.cut.now) _ c.loop-next.count c.loop-next.next
    (inv.written blocks) (inr c.if-count-lt-MAX_DESCRIPTORS.false) in
    visits-covered rs blocks c.args.cursor c.loop-next.cursor c.args.lba c.loop-next.next _
    c.args.table.now c.loop-next.table c.requires.cursor inv.cursor inv.order inv.table all.reached
    (inv.few blocks)

pub returns-after-loop-next-clause-descriptors :
    goal.returns-after-loop-next-clause-descriptors
returns-after-loop-next-clause-descriptors c = λ blocks.
    let all = all-written (contents_of (singles c.args.table.now.records) blocks) c.args.capacity
    c.args.lba (answer_of c.args.cut.now) _ c.loop-next.count c.loop-next.next
    (c.loop-next.invariant.written blocks) (inl c.loop-next-test.false) in
    record { bytes = all.bytes; count_is = all.count_is }

pub returns-after-loop-next-clause-visits :
    goal.returns-after-loop-next-clause-visits
returns-after-loop-next-clause-visits c = λ blocks.
    let rs = c.args.table.now.records in
    let inv = c.loop-next.invariant in
    let all = all-written (contents_of (singles rs) blocks) c.args.capacity c.args.lba
    (answer_of c.args.cut.now) _ c.loop-next.count c.loop-next.next
    (inv.written blocks) (inl c.loop-next-test.false) in
    visits-covered rs blocks c.args.cursor c.loop-next.cursor c.args.lba c.loop-next.next _
    c.args.table.now c.loop-next.table c.requires.cursor inv.cursor inv.order inv.table all.reached
    (inv.few blocks)

pub returns-else-count-lt-MAX_DESCRIPTORS-clause-table :
    goal.returns-else-count-lt-MAX_DESCRIPTORS-clause-table
returns-else-count-lt-MAX_DESCRIPTORS-clause-table c =
    let inv = c.loop-next.invariant in
    (visits-paid c.args.table.now.records c.args.cursor c.loop-next.cursor c.args.lba c.loop-next.next
    c.args.table.now c.loop-next.table c.requires.cursor inv.cursor inv.order inv.table).0

pub returns-else-count-lt-MAX_DESCRIPTORS-clause-rise :
    goal.returns-else-count-lt-MAX_DESCRIPTORS-clause-rise
returns-else-count-lt-MAX_DESCRIPTORS-clause-rise c =
    let inv = c.loop-next.invariant in
    (visits-paid c.args.table.now.records c.args.cursor c.loop-next.cursor c.args.lba c.loop-next.next
    c.args.table.now c.loop-next.table c.requires.cursor inv.cursor inv.order inv.table).1

pub returns-after-loop-next-clause-table :
    goal.returns-after-loop-next-clause-table
returns-after-loop-next-clause-table c =
    let inv = c.loop-next.invariant in
    (visits-paid c.args.table.now.records c.args.cursor c.loop-next.cursor c.args.lba c.loop-next.next
    c.args.table.now c.loop-next.table c.requires.cursor inv.cursor inv.order inv.table).0

pub returns-after-loop-next-clause-rise :
    goal.returns-after-loop-next-clause-rise
returns-after-loop-next-clause-rise c =
    let inv = c.loop-next.invariant in
    (visits-paid c.args.table.now.records c.args.cursor c.loop-next.cursor c.args.lba c.loop-next.next
    c.args.table.now c.loop-next.table c.requires.cursor inv.cursor inv.order inv.table).1
