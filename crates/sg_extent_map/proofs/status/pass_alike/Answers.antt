use Rattle.std.proofs.Common.{◌≡◌, ◌+◌, length, ap, sym, ◌∙◌, arith, inl, inr, refl, Some}
use Rattle.std.proofs.Common.{Option, None}
use Rattle.std.proofs.lemmas.Bool.{cases_lt}
use Rattle.sg_table.specs.Records.{ahead, passed, same_kind}
use Rattle.sg_table.specs.Table.{Table, visited}
use Rattle.sg_table.specs.declared.run.Kind.{Kind}
use Rattle.sg_table.specs.declared.run.Run.{Run}
use Rattle.sg_table.proofs.RecordLemmas.{picked, alike}
use Rattle.sg_table.proofs.TableLemmas.{visited-on, ahead-le}
use Rattle.sg_pool.specs.Rising.{end_of}
use Rattle.sg_extent_map.specs.Status.{of_kind}
use Rattle.sg_extent_map.proofs.StatusLemmas.{over-low, over-index, over-high}
use Rattle.sg_extent_map.proofs.StatusLemmas.{over-within, over-row, over-on, over-count}
use Rattle.sg_extent_map.proofs.StatusLemmas.{drop-count}
use Rattle.sg_extent_map.proofs.StatusLemmas.{over-ahead, records-fit}
use Rattle.sg_extent_map.proofs.status.pass_alike.Goals as goal

-- the extent of a kind
found : (kind : Kind) (o : Option Run) (run : Run) → of_kind kind o ≡ Some run
    → (o ≡ Some run) × (run.kind ≡ kind)
found kind None run e = let wrong = e in cc
found kind (Some r) run e =
    let both = picked (same_kind r.kind kind) r run e in
    (ap Some both.1, ap (λ (x : Run). x.kind) (sym both.1) ∙ alike r.kind kind both.0)

pub loop-run-init : goal.loop-run-init
loop-run-init c = record {
  row = λ blocks address low high. absurd (omega arith);
  at = c.requires.cursor;
  order = omega arith;
  index = omega arith;
  few = omega arith;
  short = omega arith;
  within = λ capacity t le. le;
  table = refl;
}

pub overflow_add-next : goal.overflow_add-next
overflow_add-next c =
    let rs = c.args.table.now.records in
    let t = c.requires.table in
    let run = c.in-Some.run' in
    let inv = c.loop-run.invariant in
    let is = (found c.args.kind _ run (sym c.run_of_kind.ensures ∙ c.in-Some.is)).0 in
    let within = over-within rs t.0 c.loop-run.next c.loop-run.end t.1 inv.at run is in
    record { fits = omega (arith, within, t.1.capacity_fits, c.from.ensures) }

pub overflow_add-end : goal.overflow_add-end
overflow_add-end c =
    let rs = c.args.table.now.records in
    let t = c.requires.table in
    let run = c.in-Some.run' in
    let inv = c.loop-run.invariant in
    let is = (found c.args.kind _ run (sym c.run_of_kind.ensures ∙ c.in-Some.is)).0 in
    let low = over-index rs t.0 c.loop-run.next c.loop-run.end t.1 inv.at run is in
    let fit = records-fit t.0 rs t.1 in
    record { fits = omega (arith, low, fit) }

pub new-end-requires-clause-index : goal.new-end-requires-clause-index
new-end-requires-clause-index c =
    let rs = c.args.table.now.records in
    let t = c.requires.table in
    let run = c.in-Some.run' in
    let inv = c.loop-run.invariant in
    let is = (found c.args.kind _ run (sym c.run_of_kind.ensures ∙ c.in-Some.is)).0 in
    let low = over-index rs t.0 c.loop-run.next c.loop-run.end t.1 inv.at run is in
    let same = ap (λ (x : Table). length x.records) inv.table in
    omega arith

pub new-end-requires-clause-headroom : goal.new-end-requires-clause-headroom
new-end-requires-clause-headroom c =
    let rs = c.args.table.now.records in
    let t = c.requires.table in
    let run = c.in-Some.run' in
    let inv = c.loop-run.invariant in
    let is = (found c.args.kind _ run (sym c.run_of_kind.ensures ∙ c.in-Some.is)).0 in
    let low = over-index rs t.0 c.loop-run.next c.loop-run.end t.1 inv.at run is in
    let fit = records-fit t.0 rs t.1 in
    let one = ahead-le c.loop-run.end.next in
    let visits = ap (λ (x : Table). x.visits) inv.table in
    omega (arith, low, fit, one, visits, c.requires.headroom)

pub loop-run-smaller : goal.loop-run-smaller
loop-run-smaller c =
    let rs = c.args.table.now.records in
    let t = c.requires.table in
    let run = c.in-Some.run' in
    let inv = c.loop-run.invariant in
    let is = (found c.args.kind _ run (sym c.run_of_kind.ensures ∙ c.in-Some.is)).0 in
    let low = over-index rs t.0 c.loop-run.next c.loop-run.end t.1 inv.at run is in
    omega (arith, c.new-end.ensures.index)

pub loop-run-preserved : goal.loop-run-preserved
loop-run-preserved c =
    let rs = c.args.table.now.records in
    let t = c.requires.table in
    let run = c.in-Some.run' in
    let inv = c.loop-run.invariant in
    let next = c.loop-run.next in
    let end = c.loop-run.end in
    let both = found c.args.kind _ run (sym c.run_of_kind.ensures ∙ c.in-Some.is) in
    let is = both.0 in
    let low = over-low rs t.0 next end t.1 inv.at run is in
    let high = over-high rs t.0 next end t.1 inv.at run is in
    let e = c.new-end.ensures in
    let same : c.loop-run.table.records ≡ rs = ap (λ (x : Table). x.records) inv.table in
    let on : run.start + c.from.result ≡ end_of run = ap (λ n. run.start + n) c.from.ensures in
    let one = over-ahead end.next next run is in
    let ahead_on : passed end + ahead c.new-end.result.next ≡ passed c.new-end.result =
    omega (arith, e.index, one) in
    rw on (record {
      row = λ blocks q ge lt. elim (cases_lt q next) [
        | inl before ↦ inv.row blocks q ge before
        | inr after ↦ rw both.1 at (over-row rs t.0 next end t.1 inv.at run is) blocks q after lt
      ];
      at = over-on rs t.0 next end t.1 inv.at run is c.new-end.result e.index
          (rw same at e.next);
      order = omega (arith, inv.order);
      index = omega (arith, inv.index, e.index);
      few = omega (arith, inv.few, e.index);
      short =
          let count = over-count rs t.0 next end t.1 inv.at run is in
          rw e.index (omega (arith, count, inv.short));
      within = λ capacity u le. over-within rs capacity next end u inv.at run is;
      table = visited-on c.args.table.now c.loop-run.table c.new-end.new.table _ _ _ inv.table e.table
          ∙ ap (visited c.args.table.now) ahead_on;
    })

pub returns-clause-short : goal.returns-clause-short
returns-clause-short c =
    let rs = c.args.table.now.records in
    let all = drop-count rs c.args.cursor.index in
    omega (arith, all, c.loop-run.invariant.short, c.requires.table.1.table_size)
