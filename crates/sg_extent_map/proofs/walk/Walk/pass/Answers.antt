use Rattle.std.proofs.Common.{◌-◌, drop, arith, sym, ◌∙◌}
use Rattle.std.proofs.lemmas.List.Elements.{All-head}
use Rattle.sg_extent_map.specs.Extents.{IsExtent}
use Rattle.sg_extent_map.proofs.WalkLemmas.{passes-none, passes-one, passes-more, ahead-found}
use Rattle.sg_extent_map.proofs.walk.Walk.pass.Goals as goal

pub returns-in_default : goal.returns-in_default
returns-in_default c =
    let w = c.args.self in
    λ pool h. passes-none pool c.args.lba w.at c.args.runs.now w.run
    (sym c.run_at.ensures ∙ c.in_default.is) c.requires.range h

pub returns-then-run-eq1 : goal.returns-then-run-eq1
returns-then-run-eq1 c =
    let w = c.args.self in
    let run = c.in-Some.run' in
    let there = ahead-found c.args.lba w.at c.args.runs.now w.run run
    (sym c.run_at.ensures ∙ c.in-Some.is) in
    λ pool h. passes-one pool c.args.lba _ (drop w.at c.args.runs.now) _ run c.single.result there.0
    there.1 c.if-run-eq1.true c.new.ensures c.single.ensures h

pub returns : goal.returns
returns c =
    let w = c.args.self in
    let run = c.in-Some.run' in
    let there = ahead-found c.args.lba w.at c.args.runs.now w.run run
    (sym c.run_at.ensures ∙ c.in-Some.is) in
    λ pool h.
    let h' = rw there.0 at h in
    let extent = All-head (IsExtent pool) run (drop w.at c.args.runs.now) h'.extents in
    let some = extent.not_empty in
    rw c.part.ensures (passes-more pool c.args.lba (run.count - 1) _ (drop w.at c.args.runs.now) run
    c.single.result there.0 there.1 (omega arith) (omega (arith, c.if-run-eq1.false)) c.single.ensures h)
