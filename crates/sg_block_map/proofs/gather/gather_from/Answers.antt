use Rattle.std.proofs.Common.{◌≡◌, ℕ, ◌+◌, ◌-◌, ◌<◌, List, length, ap, sym, ◌∙◌, arith}
use Rattle.std.proofs.lemmas.List.{length_push}
use Rattle.std.specs.Prelude.{slice_index_or}
use Rattle.sg_table.specs.Draft.{Drafted, pushed}
use Rattle.sg_table.specs.Records.{start_of}
use Rattle.sg_table.specs.Table.{Table, visited}
use Rattle.sg_table.specs.declared.run.Run.{Run}
use Rattle.sg_store.specs.Disk.{max_capacity}
use Rattle.sg_block_map.specs.Gathering.{end_at, end_index}
use Rattle.sg_pool.specs.Rising.{end_of}
use Rattle.sg_table.proofs.RecordLemmas.{start_of-read}
use Rattle.sg_table.proofs.SpliceLemmas.{same-splice}
use Rattle.sg_table.proofs.TableLemmas.{visited-more}
use Rattle.sg_block_map.proofs.AddressLemmas.{apart-order, apart-filled, ends-within}
use Rattle.sg_block_map.proofs.OrderLemmas.{apart-maximal}
use Rattle.sg_block_map.proofs.GatheringLemmas.{count-begun, near-more, begun-more, end_at-read}
use Rattle.sg_block_map.proofs.GatheringLemmas.{gathered-on, visits-of}
use Rattle.sg_block_map.proofs.gather.gather_from.Goals as goal

-- the visited run is the run at the index
start_here : (rs now : List Run) (at : ℕ) (run : Run) → now ≡ rs → at < length rs
    → slice_index_or now at run ≡ run → run.start ≡ start_of rs at
start_here rs now at run same low e = start_of-read rs at run low (sym e
    ∙ ap (λ xs. slice_index_or xs at run) same)

pushed_past : (gathered : Drafted) (run : Run) (now : Drafted) (at : ℕ) → now ≡ pushed gathered run
    → end_index gathered ≡ at → end_index now ≡ at + 1
pushed_past gathered run now at e is = ap end_index e
    ∙ omega (arith, length_push gathered.records run)

pub returns-then-run-high-clause-gathered : goal.returns-then-run-high-clause-gathered
returns-then-run-high-clause-gathered c =
    let rs = c.args.table.now.records in
    let inv = c.loop-at.invariant in
    let same = ap (λ (t : Table). t.records) inv.table in
    let start = start_here rs c.loop-at.table.records c.loop-at.at c.visit-run.result same
    (omega (arith, c.loop-at-test.true, c.count-at-end.ensures.value)) c.visit-run.ensures.value
    in
    gathered-on rs c.args.gathered.now c.loop-at.gathered c.args.index c.loop-at.at c.args.high
    inv.from.0 (omega arith) inv.reached inv.within inv.same
    (λ i ge lt. omega (arith, inv.near i ge lt))
    (λ low. omega (arith, c.if-run-high.true, start))

pub returns-then-run-high-clause-visits : goal.returns-then-run-high-clause-visits
returns-then-run-high-clause-visits c =
    let inv = c.loop-at.invariant in
    let t = c.args.table.now in
    let n = c.loop-at.at - c.args.index in
    let begun = count-begun t.records c.args.index c.loop-at.at c.args.high inv.near
    (omega arith) inv.within in
    visits-of t c.visit-run.new.self (n + 1) _ _
    (c.visit-run.ensures.table ∙ ap (λ x. visited x 1) inv.table ∙ visited-more t n 1)
    (omega (arith, inv.reached)) (omega (arith, begun))

-- the end of a run
end_here : (rs now : List Run) (at : ℕ) (run : Run) → now ≡ rs → at < length rs
    → slice_index_or now at run ≡ run → end_of run ≡ end_at rs at
end_here rs now at run same low e = end_at-read rs at run low (sym e
    ∙ ap (λ xs. slice_index_or xs at run) same)

pub overflow_add-run : goal.overflow_add-run
overflow_add-run c =
    let rs = c.args.table.now.records in
    let inv = c.loop-at.invariant in
    let at = c.loop-at.at in
    let same = ap (λ (t : Table). t.records) inv.table in
    let low : at < length rs = omega (arith, c.loop-at-test.true, c.count-at-end.ensures.value) in
    let end = end_here rs c.loop-at.table.records at c.visit-run.result same low
    c.visit-run.ensures.value in
    record {
      fits = omega (
        arith,
        ends-within rs 0 max_capacity at
            (apart-maximal rs 0 max_capacity (omega arith) c.requires.runs) low,
        end,
        c.from.ensures,
      );
    }

pub returns-then-run-from-clause-gathered : goal.returns-then-run-from-clause-gathered
returns-then-run-from-clause-gathered c =
    let rs = c.args.table.now.records in
    let inv = c.loop-at.invariant in
    let at = c.loop-at.at in
    let run = c.visit-run.result in
    let same = ap (λ (t : Table). t.records) inv.table in
    let low : at < length rs = omega (arith, c.loop-at-test.true, c.count-at-end.ensures.value) in
    let read : run ≡ slice_index_or rs at run = sym c.visit-run.ensures.value
    ∙ ap (λ xs. slice_index_or xs at run) same in
    let start = start_here rs c.loop-at.table.records at run same low c.visit-run.ensures.value in
    let end = end_here rs c.loop-at.table.records at run same low c.visit-run.ensures.value in
    gathered-on rs c.args.gathered.now c.push.new.self c.args.index (at + 1) c.args.high
    (rw c.push.ensures inv.from.0) (omega arith)
    (pushed_past c.loop-at.gathered run c.push.new.self at c.push.ensures inv.reached)
    (omega (arith, low))
    (rw c.push.ensures (same-splice rs c.loop-at.gathered.records c.loop-at.gathered.from at
    run low read ∙ inv.same))
    (near-more rs c.args.index at c.args.high run.start inv.near start
    (omega (arith, c.if-run-high.false)))
    (λ next. omega (
      arith,
      c.if-run-from.true,
      c.from.ensures,
      end,
      apart-order rs 0 max_capacity at (at + 1)
          (apart-maximal rs 0 max_capacity (omega arith) c.requires.runs) (omega arith) next,
    ))

pub returns-then-run-from-clause-visits : goal.returns-then-run-from-clause-visits
returns-then-run-from-clause-visits c =
    let inv = c.loop-at.invariant in
    let t = c.args.table.now in
    let n = c.loop-at.at - c.args.index in
    let begun = count-begun t.records c.args.index c.loop-at.at c.args.high inv.near
    (omega arith) inv.within in
    let on = pushed_past c.loop-at.gathered c.visit-run.result c.push.new.self c.loop-at.at
    c.push.ensures inv.reached in
    visits-of t c.visit-run.new.self (n + 1) _ _
    (c.visit-run.ensures.table ∙ ap (λ x. visited x 1) inv.table ∙ visited-more t n 1)
    (omega (arith, on)) (omega (arith, begun))

pub loop-at-preserved : goal.loop-at-preserved
loop-at-preserved c =
    let rs = c.args.table.now.records in
    let inv = c.loop-at.invariant in
    let at = c.loop-at.at in
    let run = c.visit-run.result in
    let same = ap (λ (t : Table). t.records) inv.table in
    let low : at < length rs = omega (arith, c.loop-at-test.true, c.count-at-end.ensures.value) in
    let read : run ≡ slice_index_or rs at run = sym c.visit-run.ensures.value
    ∙ ap (λ xs. slice_index_or xs at run) same in
    let start = start_here rs c.loop-at.table.records at run same low c.visit-run.ensures.value in
    let end = end_here rs c.loop-at.table.records at run same low c.visit-run.ensures.value in
    let filled = apart-filled rs 0 max_capacity at
    (apart-maximal rs 0 max_capacity (omega arith) c.requires.runs) low in
    let on : at - c.args.index + 1 ≡ at + 1 - c.args.index = omega arith in
    record {
      from = rw c.push.ensures inv.from;
      reached = pushed_past c.loop-at.gathered run c.push.new.self at c.push.ensures inv.reached;
      within = omega arith;
      same = rw c.push.ensures (same-splice rs c.loop-at.gathered.records c.loop-at.gathered.from at
          run low read ∙ inv.same);
      near = begun-more rs c.args.index at c.args.high run.start inv.near start
          (omega (arith, c.if-run-from.false, c.from.ensures, start, end, filled));
      table = c.visit-run.ensures.table ∙ ap (λ t. visited t 1) inv.table
          ∙ visited-more c.args.table.now (at - c.args.index) 1 ∙ ap (visited c.args.table.now) on;
    }

pub returns-clause-gathered : goal.returns-clause-gathered
returns-clause-gathered c =
    let inv = c.loop-at.invariant in
    gathered-on c.args.table.now.records c.args.gathered.now c.loop-at.gathered c.args.index
    c.loop-at.at c.args.high inv.from.0 (omega arith) inv.reached inv.within inv.same
    (λ i ge lt. omega (arith, inv.near i ge lt))
    (λ low. absurd (omega (
      arith,
      c.loop-at-test.false,
      c.count-at-end.ensures.value,
      low,
      c.loop-at.auto.at-end,
    )))

pub returns-clause-visits : goal.returns-clause-visits
returns-clause-visits c =
    let inv = c.loop-at.invariant in
    let begun = count-begun c.args.table.now.records c.args.index c.loop-at.at c.args.high inv.near
    (omega arith) inv.within in
    visits-of c.args.table.now c.loop-at.table (c.loop-at.at - c.args.index) _ _ inv.table
    (omega (arith, inv.reached)) (omega (arith, begun))
