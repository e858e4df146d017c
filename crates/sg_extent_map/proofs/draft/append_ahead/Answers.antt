use Rattle.std.proofs.Common.{length}
use Rattle.std.proofs.Common.{◌≡◌, ◌+◌, ◌++◌, ◌∷◌, ap, ◌∙◌, sym, arith, drop, get_or}
use Rattle.std.proofs.lemmas.List.Elements.{All-head, All-tail}
use Rattle.sg_table.specs.Draft.{Drafted}
use Rattle.sg_table.specs.declared.run.Kind.TheVariants.{Data}
use Rattle.sg_table.specs.declared.run.Run.{Run}
use Rattle.sg_extent_map.proofs.DraftLemmas.{appended, drop-run, all-appended, appended-room}
use Rattle.sg_extent_map.specs.Drafting.{drafted}
use Rattle.sg_extent_map.specs.Extents.{singles, IsExtent}
use Rattle.sg_extent_map.specs.Walking.{ahead_of}
use Rattle.sg_extent_map.proofs.SinglesLemmas.{append-none, singles-none}
use Rattle.sg_extent_map.proofs.draft.append_ahead.Goals as goal

pub returns-in_default-clause-addresses : goal.returns-in_default-clause-addresses
returns-in_default-clause-addresses c =
    let w = c.args.walk in
    let all = singles (drafted c.args.draft.now c.args.done) in
    sym (ap (λ o. all ++ singles (ahead_of c.args.runs.now o w.at)) c.in_default.is
    ∙ ap (λ xs. all ++ xs) singles-none ∙ append-none all)

abbrev no_run : Run
no_run = record { start = 0; count = 0; first = 0; last = 0; kind = Data }

pub loop-at-init : goal.loop-at-init
loop-at-init c =
    let w = c.args.walk in
    let runs = c.args.runs.now in
    let run = c.in-Some.run' in
    let e = c.append-done.ensures in
    let all : ahead_of runs w.run w.at ≡ run ∷ drop w.at runs =
    ap (λ o. ahead_of runs o w.at) c.in-Some.is in
    record {
      addresses = appended (singles (drafted c.append-done.new.draft c.append-done.result))
          (singles (drafted c.args.draft.now c.args.done)) (drop w.at runs) (ahead_of runs w.run w.at)
          run e.addresses all;
      drafted = λ pool h k. e.extents pool h (λ _. All-head (IsExtent pool) run (drop w.at runs)
          (rw all at k));
      rest = λ pool k. All-tail (IsExtent pool) run (drop w.at runs) (rw all at k);
      maximal = e.maximal;
      longer = omega (arith, e.longer, ap length all);
      room = ap (λ (d : Drafted). d.room) e.only;
    }

pub append-done-requires-in-loop-at-clause-run : goal.append-done-requires-in-loop-at-clause-run
append-done-requires-in-loop-at-clause-run c =
    let runs = c.args.runs.now in
    let at = c.loop-at.at in
    let more = drop-run runs at no_run c.loop-at-test.true in
    let all = c.loop-at.invariant.rest _ c.requires.ahead in
    λ _. All-head (IsExtent _) (get_or runs at no_run) (drop (at + 1) runs) (rw more at all)

pub append-done-requires-in-loop-at-clause-room : goal.append-done-requires-in-loop-at-clause-room
append-done-requires-in-loop-at-clause-room c =
    let inv = c.loop-at.invariant in
    let w = c.args.walk in
    let fits = appended-room (singles (drafted c.loop-at.draft c.loop-at.done))
    (singles (drafted c.args.draft.now c.args.done)) (singles (drop c.loop-at.at c.args.runs.now))
    (singles (ahead_of c.args.runs.now w.run w.at)) c.args.draft.now.room inv.addresses c.requires.room
    in
    omega (arith, fits, inv.room)

pub loop-at-preserved : goal.loop-at-preserved
loop-at-preserved c =
    let w = c.args.walk in
    let runs = c.args.runs.now in
    let at = c.loop-at.at in
    let run : Run = get_or runs at no_run in
    let inv = c.loop-at.invariant in
    let e = c.append-done-in-loop-at.ensures in
    let more = drop-run runs at no_run c.loop-at-test.true in
    record {
      addresses = appended
          (singles (drafted c.append-done-in-loop-at.new.draft c.append-done-in-loop-at.result))
          (singles (drafted c.loop-at.draft c.loop-at.done)) (drop (at + 1) runs) (drop at runs)
          run e.addresses more ∙ inv.addresses;
      drafted = λ pool h k. e.extents pool (inv.drafted pool h k)
          (λ _. All-head (IsExtent pool) run (drop (at + 1) runs) (rw more at (inv.rest pool k)));
      rest = λ pool k. All-tail (IsExtent pool) run (drop (at + 1) runs) (rw more at (inv.rest pool k));
      maximal = λ h. e.maximal (inv.maximal h);
      longer = omega (arith, inv.longer, e.longer, ap length more);
      room = ap (λ (d : Drafted). d.room) e.only ∙ inv.room;
    }

pub returns-clause-addresses : goal.returns-clause-addresses
returns-clause-addresses c =
    let w = c.args.walk in
    all-appended (singles (drafted c.loop-at.draft c.loop-at.done))
    (singles (drafted c.args.draft.now c.args.done)) c.args.runs.now
    (ahead_of c.args.runs.now w.run w.at) c.loop-at.at c.loop-at.invariant.addresses c.loop-at-test.false
