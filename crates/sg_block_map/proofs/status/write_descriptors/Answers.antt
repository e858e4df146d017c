use Rattle.std.proofs.Common.{◌≡◌, ◌+◌, ◌-◌, ◌<◌, ◌≤◌, ◌⊎◌, ℕ, List}
use Rattle.std.proofs.Common.{Option, length, ap, refl, arith, inl, inr}
use Rattle.std.proofs.lemmas.Bool.{cases_lt}
use Rattle.sg_wire.specs.Cut.{answer_of}
use Rattle.sg_store.specs.LbaStatus.{covered, descriptors_from}
use Rattle.sg_table.specs.Records.{passed}
use Rattle.sg_table.specs.Table.{Table, visited}
use Rattle.sg_table.specs.declared.cursor.Cursor.{Cursor}
use Rattle.sg_table.specs.declared.run.Run.{Run}
use Rattle.sg_block_map.specs.Metering.{VisitsBetween}
use Rattle.sg_block_map.specs.Runs.{chained_contents}
use Rattle.sg_block_map.specs.Status.{AreFrom, AreMet, IsOver, IsRunTable, records_met}
use Rattle.sg_store.proofs.StatusLemmas.{none-written, one-written, all-written}
use Rattle.sg_table.specs.Records.{ahead, IsNext}
use Rattle.sg_table.proofs.TableLemmas.{ahead-le, visited-less}
use Rattle.sg_block_map.proofs.StatusLemmas.{visited-trade, ahead-is}
use Rattle.sg_block_map.proofs.MeetingLemmas.{met-count}
use Rattle.sg_block_map.proofs.status.write_descriptors.Goals as goal

pub loop-next-init : goal.loop-next-init
loop-next-init c = record {
  order = omega arith;
  cursor = c.requires.cursor;
  room = omega arith;
  written = λ slots. none-written c.parts_are_put_in_turn.ensures
      (chained_contents c.args.table.now.records slots) c.args.capacity c.args.lba c.args.cut.now;
  met = λ i ge lt. absurd (omega arith);
  rest = inl (refl, refl);
  table = refl;
}

pub loop-next-preserved : goal.loop-next-preserved
loop-next-preserved c =
    let rs = c.args.table.now.records in
    let inv = c.loop-next.invariant in
    let e = c.describe.ensures in
    let d = c.describe.result.0 in
    let next = c.loop-next.next in
    let same : c.loop-next.table.records ≡ rs = ap (λ (t : Table). t.records) inv.table in
    let on : next + c.from-next.result ≡ next + d.count = ap (λ k. next + k) c.from-next.ensures in
    let low : c.args.lba ≤ next = elim inv.rest
    [ inl none ↦ omega (arith, none.0) | inr some ↦ omega (arith, some.0) ] in
    let met = rw same at e.met in
    record {
      order = omega (arith, inv.order, met.order);
      cursor = rw on (rw same at e.cursor);
      room = omega (arith, c.if-count-lt-MAX_DESCRIPTORS.true);
      written = λ slots. rw on (one-written c.parts_are_put_in_turn.ensures
          (chained_contents rs slots) c.args.capacity c.args.lba (answer_of c.args.cut.now) _ _
          c.loop-next.count next d c.bytes.result (inv.written slots) c.loop-next-test.true
          c.if-count-lt-MAX_DESCRIPTORS.true (rw same at (e.descriptor slots)) c.bytes.ensures
          c.put.ensures);
      met = rw on (λ i ge lt. elim (cases_lt i c.loop-next.cursor.index) [
        | inl before ↦ let m = inv.met i ge before in (m.0, omega (arith, m.1))
        | inr after ↦ let m = met.met i after lt in (omega (arith, m.0, low), m.1)
      ]);
      rest = rw on (inr (omega (arith, low, met.not_empty), met.rest));
      table = visited-trade c.args.table.now c.loop-next.table c.describe.new.table
          (passed c.args.cursor)
          (passed c.loop-next.cursor) (passed c.describe.result.1) e.cost inv.table;
    }

-- the runs that the cursor passes are visited
only-more : (rs : List Run) (from to : ℕ) (next next' : Option Run) → IsNext rs from next
    → from ≤ length rs → IsNext rs to next' → to ≤ length rs → from ≤ to
    → from + ahead next ≤ to + ahead next'
only-more rs from to next next' at within at' within' order =
    omega (arith, order, ahead-is rs from next at within, ahead-is rs to next' at' within')

only-visits : (rs : List Run) (cursor end : Cursor) (t u : Table)
    → IsNext rs cursor.index cursor.next → cursor.index ≤ length rs
    → IsNext rs end.index end.next → end.index ≤ length rs → cursor.index ≤ end.index
    → visited u (passed cursor) ≡ visited t (passed end) → u ≡ visited t (u.total - t.total)
only-visits rs cursor end t u at within at' within' order paid =
    let total : u.total + passed cursor ≡ t.total + passed end =
    ap (λ (x : Table). x.total) paid in
    let rises = only-more rs cursor.index end.index cursor.next end.next at within at' within'
    order in
    visited-less u t (passed cursor) (passed end) (u.total - t.total) paid
    (omega (arith, total, rises))

-- the visits to the runs that were met
met-visits : (rs : List Run) (capacity lba next n : ℕ) (cursor end : Cursor) (t u : Table)
    → IsRunTable capacity rs → IsOver rs cursor lba → IsOver rs end next
    → cursor.index ≤ end.index → AreMet rs cursor.index end.index lba next
    → ((next ≡ lba) × (cursor.index ≡ end.index)) ⊎ ((lba < next) × AreFrom rs end.index next)
    → next ≡ lba + n → visited u (passed cursor) ≡ visited t (passed end)
    → VisitsBetween (records_met rs lba n - ahead cursor.next)
    (records_met rs lba n + 1 - ahead cursor.next)
    t u
met-visits rs capacity lba next n cursor end t u table from to order met rest is paid =
    let count : records_met rs lba n ≡ end.index - cursor.index =
    met-count rs capacity cursor.index end.index lba n table order to.within from.before
    (rw is at met) (elim rest [
      | inl none ↦ inl (omega (arith, none.0), none.1)
      | inr some ↦ inr (omega (arith, some.0), rw is at some.1)
    ]) in
    let total : u.total + passed cursor ≡ t.total + passed end = ap (λ (x : Table). x.total) paid in
    let one = ahead-le cursor.next in
    let one_more = ahead-le end.next in
    let rises = only-more rs cursor.index end.index cursor.next end.next from.next from.within
    to.next to.within order in
    record {
      fewest_visits = omega (arith, count, total, order, rises);
      most_visits = omega (arith, count, total, order, rises, one, one_more);
    }

pub returns-else-count-lt-MAX_DESCRIPTORS-clause-descriptors :
    goal.returns-else-count-lt-MAX_DESCRIPTORS-clause-descriptors
returns-else-count-lt-MAX_DESCRIPTORS-clause-descriptors c = λ slots.
    let all = all-written (chained_contents c.args.table.now.records slots) c.args.capacity
    c.args.lba (answer_of c.args.cut.now) _ c.loop-next.count c.loop-next.next
    (c.loop-next.invariant.written slots) (inr c.if-count-lt-MAX_DESCRIPTORS.false) in
    record { bytes = all.bytes; count_is = all.count_is }

pub returns-else-count-lt-MAX_DESCRIPTORS-clause-visits :
    goal.returns-else-count-lt-MAX_DESCRIPTORS-clause-visits
returns-else-count-lt-MAX_DESCRIPTORS-clause-visits c = λ slots.
    let rs = c.args.table.now.records in
    let inv = c.loop-next.invariant in
    let all = all-written (chained_contents rs slots) c.args.capacity c.args.lba
    (answer_of c.args.cut.now) _ c.loop-next.count c.loop-next.next (inv.written slots)
    (inr c.if-count-lt-MAX_DESCRIPTORS.false) in
    met-visits rs c.args.capacity c.args.lba c.loop-next.next
    (covered (descriptors_from (chained_contents rs slots) c.args.capacity c.args.lba 512))
    c.args.cursor c.loop-next.cursor c.args.table.now c.loop-next.table c.requires.table
    c.requires.cursor inv.cursor inv.order inv.met inv.rest all.reached inv.table

pub returns-after-loop-next-clause-descriptors :
    goal.returns-after-loop-next-clause-descriptors
returns-after-loop-next-clause-descriptors c = λ slots.
    let all = all-written (chained_contents c.args.table.now.records slots) c.args.capacity
    c.args.lba (answer_of c.args.cut.now) _ c.loop-next.count c.loop-next.next
    (c.loop-next.invariant.written slots) (inl c.loop-next-test.false) in
    record { bytes = all.bytes; count_is = all.count_is }

pub returns-after-loop-next-clause-visits :
    goal.returns-after-loop-next-clause-visits
returns-after-loop-next-clause-visits c = λ slots.
    let rs = c.args.table.now.records in
    let inv = c.loop-next.invariant in
    let all = all-written (chained_contents rs slots) c.args.capacity c.args.lba
    (answer_of c.args.cut.now) _ c.loop-next.count c.loop-next.next (inv.written slots)
    (inl c.loop-next-test.false) in
    met-visits rs c.args.capacity c.args.lba c.loop-next.next
    (covered (descriptors_from (chained_contents rs slots) c.args.capacity c.args.lba 512))
    c.args.cursor c.loop-next.cursor c.args.table.now c.loop-next.table c.requires.table
    c.requires.cursor inv.cursor inv.order inv.met inv.rest all.reached inv.table

pub returns-else-count-lt-MAX_DESCRIPTORS-clause-table :
    goal.returns-else-count-lt-MAX_DESCRIPTORS-clause-table
returns-else-count-lt-MAX_DESCRIPTORS-clause-table c =
    let inv = c.loop-next.invariant in
    only-visits c.args.table.now.records c.args.cursor c.loop-next.cursor c.args.table.now
    c.loop-next.table c.requires.cursor.next c.requires.cursor.within inv.cursor.next
    inv.cursor.within inv.order inv.table

pub returns-after-loop-next-clause-table :
    goal.returns-after-loop-next-clause-table
returns-after-loop-next-clause-table c =
    let inv = c.loop-next.invariant in
    only-visits c.args.table.now.records c.args.cursor c.loop-next.cursor c.args.table.now
    c.loop-next.table c.requires.cursor.next c.requires.cursor.within inv.cursor.next
    inv.cursor.within inv.order inv.table
