use Rattle.std.proofs.Common.{◌≡◌, drop, arith}
use Rattle.sg_store.specs.Disk.{max_capacity}
use Rattle.std.proofs.Common.{◌∷◌, []}
use Rattle.sg_pool.proofs.RisingLemmas.{apart-le}
use Rattle.sg_extent_map.proofs.WalkLemmas.{begun-none, begun-past, begun-after, begun-within}
use Rattle.sg_extent_map.proofs.WalkLemmas.{cons-drop}
use Rattle.sg_extent_map.proofs.walk.Walk.begin.Goals as goal

pub returns-in_default : goal.returns-in_default
returns-in_default c =
    let runs = c.args.runs.now in
    let at = c.new-walk.result.at in
    let none : [] ≡ runs = rw c.in_default.is at c.new-walk.ensures in
    λ pool h. rw c.in_default.is (begun-none pool c.args.lba runs none
    (apart-le (drop 1 runs) c.args.lba max_capacity c.requires.rest.apart) h)

pub returns-then-lba-run : goal.returns-then-lba-run
returns-then-lba-run c =
    let runs = c.args.runs.now in
    let at = c.new-walk.result.at in
    let run = c.in-Some.run' in
    let some : run ∷ drop at runs ≡ runs = rw c.in-Some.is at c.new-walk.ensures in
    λ pool h. rw c.in-Some.is (begun-past pool c.args.lba runs (drop at runs) run some
    c.if-lba-run.true h)

pub returns-then-before-from : goal.returns-then-before-from
returns-then-before-from c =
    let runs = c.args.runs.now in
    let at = c.new-walk.result.at in
    let run = c.in-Some.run' in
    let some : run ∷ drop at runs ≡ runs = rw c.in-Some.is at c.new-walk.ensures in
    let more = cons-drop run (drop at runs) runs some in
    λ pool h. rw c.new.ensures (begun-after pool c.args.lba runs (drop 1 runs) run more
    (omega (arith, c.if-lba-run.false, c.if-before-from.true, c.from.ensures))
    c.requires.rest.apart h)

pub returns : goal.returns
returns c =
    let runs = c.args.runs.now in
    let at = c.new-walk.result.at in
    let run = c.in-Some.run' in
    let some : run ∷ drop at runs ≡ runs = rw c.in-Some.is at c.new-walk.ensures in
    let more = cons-drop run (drop at runs) runs some in
    λ pool h. rw (c.part.ensures, c.part-rest.ensures) (begun-within pool c.args.lba _ runs
    (drop 1 runs) run more
    (omega (arith, c.if-lba-run.false))
    (omega (arith, c.if-before-from.false, c.from.ensures)) h)
