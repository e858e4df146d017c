use Rattle.std.proofs.Common.{◌≡◌, ◌+◌, ap, sym, ◌∙◌, arith, inl, inr}
use Rattle.std.proofs.lemmas.Bool.{cases_lt}
use Rattle.sg_table.specs.Records.{ahead}
use Rattle.sg_table.specs.Table.{Table, visited}
use Rattle.sg_table.specs.Records.{passed}
use Rattle.sg_table.proofs.TableLemmas.{visited-on}
use Rattle.sg_table.proofs.RecordLemmas.{index-mapped}
use Rattle.sg_plain_map.proofs.CursorLemmas.{found, ahead-found, of_kind-found}
use Rattle.sg_plain_map.proofs.status.pass_alike.Goals as goal

pub loop-run-preserved : goal.loop-run-preserved
loop-run-preserved c =
    let t = c.args.table.now in
    let rs = t.records in
    let inv = c.loop-run.invariant in
    let run = c.in-Some.run' in
    let i = c.loop-run.end.index in
    let from = c.args.cursor.index in
    let both = of_kind-found c.args.kind _ run (sym c.run_of_kind.ensures ∙ c.in-Some.is) in
    let is = both.0 in
    let here = found rs c.loop-run.end.next i c.loop-run.next run inv.at.next is in
    let same : c.loop-run.table.records ≡ rs = ap (λ (x : Table). x.records) inv.table in
    let e = c.new-end.ensures in
    let one = ahead-found c.loop-run.end.next c.loop-run.next run is in
    let on : passed c.loop-run.end + ahead c.new-end.result.next ≡ passed c.new-end.result =
    omega (arith, e.index) in
    record {
      order = omega (arith, e.index, inv.order);
      next = omega (arith, e.index, inv.next, here.2);
      at = record {
        index =
            rw (e.index, here.2)
            (index-mapped rs i c.loop-run.next run c.requires.table.sorted inv.at.index here.0
            (sym here.1) here.2);
        next = rw (e.index, sym same) e.next;
      };
      row = λ q ge lt. elim (cases_lt q i) [
        | inl below ↦ inv.row q ge below
        | inr above ↦ let at : q ≡ i = omega (arith, e.index) in
            rw at (run, here.1, omega (arith, inv.next, here.2), both.1)
      ];
      table = visited-on t c.loop-run.table c.new-end.new.table _ _ _ inv.table e.table ∙ ap (visited t) on;
    }
