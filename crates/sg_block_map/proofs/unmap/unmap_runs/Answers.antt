use Rattle.std.proofs.Common.{◌≡◌, ℕ, ◌+◌, ◌-◌, ◌<◌, ◌≤◌, List, ◌∷◌, ◌++◌, length, take, drop, ap}
use Rattle.std.proofs.Common.{[], subst, sym, ◌∙◌, arith, refl, length-append, length-drop}
use Rattle.std.proofs.lemmas.Bool.Decides.{nat_tests}
use Rattle.std.proofs.lemmas.List.{get_or_default, nil_from_length, take-append-drop, length-take-le}
use Rattle.std.proofs.lemmas.List.Sums.{sum_by_more, sum_by-take-le}
use Rattle.std.specs.List.{splice}
use Rattle.std.specs.Prelude.{slice_index_or}
use Rattle.sg_store.specs.Disk.{max_capacity}
use Rattle.sg_table.specs.Draft.{Drafted}
use Rattle.sg_pool.specs.MappedRecords.{outside_records}
use Rattle.sg_pool.specs.Slots.{Slots}
use Rattle.sg_table.specs.Table.{Table}
use Rattle.sg_table.specs.declared.run.Kind.TheVariants.{Data}
use Rattle.sg_table.specs.declared.run.Run.{Run}
use Rattle.sg_block_map.specs.Gathering.{end_index, AreGathered}
use Rattle.sg_block_map.specs.Runs.{expanded, AreRuns}
use Rattle.sg_block_map.proofs.CutRunsLemmas.{cut-runs, cut-outside, kept-outside}
use Rattle.sg_block_map.proofs.RunSlotLemmas.{run-chain}
use Rattle.sg_block_map.proofs.RunSlotLemmas.{run-distinct, run-below, run-lengths, run-range}
use Rattle.sg_block_map.proofs.FinishLemmas.{gathered-ahead}
use Rattle.sg_block_map.proofs.RemainingLemmas.{nothing-left}
use Rattle.sg_block_map.proofs.RemainingPartLemmas.{few-kept, parts-kept}
use Rattle.sg_block_map.proofs.RunSlotLemmas.{runs-fit, gathered-here}
use Rattle.sg_block_map.proofs.RunSlotLemmas.{gathered-blocks}
use Rattle.sg_block_map.proofs.ExpandedLemmas.{expanded-none}
use Rattle.sg_block_map.proofs.OrderLemmas.{apart-loose}
use Rattle.sg_block_map.proofs.unmap.unmap_runs.Goals as goal

abbrev no_run : Run
no_run = record { start = 0; count = 0; first = 0; last = 0; kind = Data }

-- the table with the runs so far cut, if another run follows
here : (rs kept runs : List Run) (gathered : Drafted) (slots : Slots)
    (room low high bound from i : ℕ) → AreGathered rs gathered low high bound
    → runs ≡ gathered.records → from ≡ gathered.from → i < length runs
    → AreRuns (splice rs from (from + i) kept) slots room
    → AreRuns (take gathered.from rs ++ (kept ++ slice_index_or runs i no_run ∷ drop
    (gathered.from + (i + 1)) rs)) slots room
here rs kept runs gathered slots room low high bound from i g same starts_in lt h =
    let lt' : i < length gathered.records = rw (sym same) lt in
    rw same (rw (starts_in, gathered-here rs kept gathered low high bound i no_run g lt') at h)

-- no run is near the range
pub returns-then-is_empty-clause-records : goal.returns-then-is_empty-clause-records
returns-then-is_empty-clause-records c =
    let rs = c.args.table.now.records in
    let next = c.args.pool.now.next in
    let gathered = c.args.gathered.now in
    let g = c.requires.ready.gathered_runs in
    let before : List Run = take gathered.from rs in
    let after : List Run = drop (end_index gathered) rs in
    let none : gathered.records ≡ [] = nil_from_length gathered.records
    (let empty = sym c.if-is_empty.true ∙ c.is_empty.ensures in
    let same = ap length c.records-runs.ensures in grind (arith, nat_tests)) in
    let parts : rs ≡ before ++ after = sym g.same ∙ ap (λ zs. before ++ (zs ++ after)) none in
    subst (λ zs. expanded next zs
    ≡ outside_records (expanded next zs) c.args.low (c.args.high - c.args.low)) (sym parts)
    (nothing-left next before [] after c.args.low c.args.high (max_capacity + 1)
    (omega (arith, c.requires.order)) (apart-loose before 0 0 c.args.low (omega arith) g.before)
    (apart-loose after (c.args.high + 1) c.args.high (max_capacity + 1) (omega arith) g.after)
    (rw (expanded-none next) refl))

pub loop-i-init : goal.loop-i-init
loop-i-init c =
    let rs = c.args.table.now.records in
    let none = c.new-remaining.ensures in
    let whole : splice rs c.from-from.result (c.from-from.result + 0) c.new-remaining.result.items ≡ rs
    = ap (λ n. splice rs c.from-from.result n c.new-remaining.result.items) (omega arith)
    ∙ ap (splice rs c.from-from.result c.from-from.result) none
    ∙ take-append-drop c.from-from.result rs in
    record {
      runs = rw whole c.requires.ready.runs;
      same = rw whole refl;
      outside = rw (none, expanded-none c.args.pool.now.next) refl;
      none = λ _. ap length none;
      few = λ _. omega (arith, ap length none);
      most = omega (arith, ap length none);
      blocks = refl;
      rise = omega arith;
      links = omega arith;
    }

pub unmap_run-requires : goal.unmap_run-requires
unmap_run-requires c =
    let rs = c.args.table.now.records in
    let inv = c.loop-i.invariant in
    let gathered = c.args.gathered.now in
    let kept = c.loop-i.remaining.items in
    let run : Run = slice_index_or c.records-runs.result.now c.loop-i.i no_run in
    let xs : List Run = take gathered.from rs in
    let tail : List Run = drop (gathered.from + (c.loop-i.i + 1)) rs in
    let room = c.args.table.now.room in
    let now = here rs kept c.records-runs.result.now gathered c.loop-i.pool room c.args.low
    c.args.high (max_capacity + 1) c.from-from.result c.loop-i.i c.requires.ready.gathered_runs
    c.records-runs.ensures c.from-from.ensures c.loop-i-test.true inv.runs in
    let l = run-lengths xs kept tail run c.loop-i.pool room now in
    let few = gathered-blocks rs gathered c.args.pool.now room c.args.low c.args.high
    (max_capacity + 1) c.requires.ready.runs c.requires.ready.gathered_runs in
    let part = sum_by-take-le (λ (r : Run). r.count) gathered.records c.loop-i.i in
    record {
      slots = record {
        is_chain = run-chain xs kept tail run c.loop-i.pool room now;
        below = run-below xs kept tail run c.loop-i.pool room now;
        distinct = run-distinct xs kept tail run c.loop-i.pool room now;
        fits = omega (arith, l.0, c.requires.ready.table_size);
      };
      room = omega (arith, inv.few c.loop-i-test.true);
      range = run-range xs kept tail run c.loop-i.pool room now;
      order = c.requires.order;
      headroom = omega (
        arith,
        l.0,
        inv.links,
        c.requires.ready.headroom,
        c.requires.ready.table_size,
      );
    }

pub loop-i-preserved : goal.loop-i-preserved
loop-i-preserved c =
    let rs = c.args.table.now.records in
    let inv = c.loop-i.invariant in
    let gathered = c.args.gathered.now in
    let kept = c.loop-i.remaining.items in
    let run : Run = slice_index_or c.records-runs.result.now c.loop-i.i no_run in
    let xs : List Run = take gathered.from rs in
    let tail : List Run = drop (gathered.from + (c.loop-i.i + 1)) rs in
    let now = here rs kept c.records-runs.result.now gathered c.loop-i.pool c.args.table.now.room
    c.args.low c.args.high (max_capacity + 1) c.from-from.result c.loop-i.i c.requires.ready.gathered_runs
    c.records-runs.ensures c.from-from.ensures c.loop-i-test.true inv.runs in
    let e = c.unmap_run.ensures in
    let g = c.requires.ready.gathered_runs in
    let apart = (gathered-ahead xs gathered.records (drop (end_index gathered) rs) c.args.pool.now
    c.args.table.now.room (subst (λ zs. AreRuns zs c.args.pool.now c.args.table.now.room) (sym g.same)
    c.requires.ready.runs)).apart in
    let here-is : run ≡ slice_index_or gathered.records c.loop-i.i run =
    get_or_default c.records-runs.result.now c.loop-i.i no_run run c.loop-i-test.true
    ∙ ap (λ rs. slice_index_or rs c.loop-i.i run) c.records-runs.ensures in
    let order : c.args.low ≤ c.args.high = omega (arith, c.requires.order) in
    let was : splice rs c.from-from.result (c.from-from.result + c.loop-i.i) kept ≡
    xs ++ (kept ++ run ∷ tail)
    = rw (c.from-from.ensures, c.records-runs.ensures)
    (gathered-here rs kept gathered c.args.low c.args.high
    (max_capacity + 1) c.loop-i.i no_run c.requires.ready.gathered_runs
    (rw c.records-runs.ensures at c.loop-i-test.true)) in
    let is : splice rs c.from-from.result (c.from-from.result + (c.loop-i.i + 1))
    c.unmap_run.new.remaining.items ≡ xs ++ (c.unmap_run.new.remaining.items ++ tail) =
    rw c.from-from.ensures refl in
    let links = sum_by_more (λ (r : Run). r.count) gathered.records c.loop-i.i no_run
    (rw c.records-runs.ensures at c.loop-i-test.true) in
    let count = ap (λ rs. (slice_index_or rs c.loop-i.i no_run).count) c.records-runs.ensures in
    record {
      runs = rw is (cut-runs e.cut xs tail now c.requires.order);
      same = ap (λ zs. outside_records (expanded c.unmap_run.new.pool.next zs) c.args.low
          (c.args.high - c.args.low)) is
          ∙ cut-outside e.cut xs tail now order
          ∙ ap (λ zs. outside_records (expanded c.loop-i.pool.next zs) c.args.low
          (c.args.high - c.args.low)) (sym was) ∙ inv.same;
      outside = kept-outside e.cut xs tail now order inv.outside;
      none = λ z. absurd (omega arith);
      few = λ lt. few-kept gathered.records 0 max_capacity c.loop-i.i c.loop-i.pool c.unmap_run.new.pool kept
          c.unmap_run.new.remaining.items run c.args.low c.args.high apart g.near here-is e.cut inv.none
          (inv.few c.loop-i-test.true) (omega (arith, lt, ap length c.records-runs.ensures));
      most = parts-kept c.loop-i.pool c.unmap_run.new.pool kept c.unmap_run.new.remaining.items run
          c.args.low c.args.high e.cut (inv.few c.loop-i-test.true);
      blocks = e.cut.blocks ∙ inv.blocks;
      rise = omega (arith, inv.rise, e.links.links_rise);
      links = omega (arith, inv.links, e.links.most_links, links, count);
    }

pub put_runs-requires-clause-table_size : goal.put_runs-requires-clause-table_size
put_runs-requires-clause-table_size c =
    let fit = runs-fit c.args.table.now.records c.args.pool.now c.args.table.now.room
    c.requires.ready.runs in
    omega (arith, fit, c.requires.ready.table_size)

pub put_runs-requires-clause-room : goal.put_runs-requires-clause-room
put_runs-requires-clause-room c =
    let rs = c.args.table.now.records in
    let inv = c.loop-i.invariant in
    let from = c.from-from.result in
    let kept = c.loop-i.remaining.items in
    let fit = runs-fit (splice rs from (from + c.loop-i.i) kept) c.loop-i.pool c.args.table.now.room
    inv.runs in
    let a = length-append (take from rs) (kept ++ drop (from + c.loop-i.i) rs) in
    let b = length-append kept (drop (from + c.loop-i.i) rs) in
    let d = length-drop (from + c.loop-i.i) rs in
    let within = c.requires.ready.gathered_runs.within in
    let starts_in = c.from-from.ensures in
    let runs = ap length c.records-runs.ensures in
    let records = ap length c.as_slice.ensures.value in
    let e = length-take-le from rs (omega arith) in
    omega (arith, c.loop-i-test.false, c.loop-i.auto.i-end)

pub returns-clause-records : goal.returns-clause-records
returns-clause-records c =
    let rs = c.args.table.now.records in
    let inv = c.loop-i.invariant in
    let gathered = c.args.gathered.now in
    let kept = c.loop-i.remaining.items in
    let g = c.requires.ready.gathered_runs in
    let all : c.loop-i.i ≡ length gathered.records =
    omega (arith, c.loop-i-test.false, c.loop-i.auto.i-end, ap length c.records-runs.ensures) in
    let is : c.put_runs.new.table.records ≡ take gathered.from rs ++
    (kept ++ drop (gathered.from + length gathered.records) rs)
    = ap (λ (t : Table). t.records) c.put_runs.ensures.table
    ∙ rw c.as_slice.ensures.value refl in
    let now : splice rs c.from-from.result (c.from-from.result + c.loop-i.i) kept ≡
    take gathered.from rs ++ (kept ++ drop (gathered.from + length gathered.records) rs) =
    rw (c.from-from.ensures, all) refl in
    ap (λ zs. expanded c.loop-i.pool.next zs) is
    ∙ nothing-left c.loop-i.pool.next (take gathered.from rs) kept
    (drop (gathered.from + length gathered.records) rs) c.args.low c.args.high
    (max_capacity + 1) (omega (arith, c.requires.order))
    (apart-loose (take gathered.from rs) 0 0 c.args.low (omega arith) g.before)
    (apart-loose (drop (end_index gathered) rs) (c.args.high + 1) c.args.high (max_capacity + 1)
    (omega arith) g.after) inv.outside
    ∙ ap (λ zs. outside_records (expanded c.loop-i.pool.next zs) c.args.low
    (c.args.high - c.args.low)) (sym now) ∙ inv.same
