use Rattle.std.proofs.Common.{arith}
use Rattle.sg_extent_map.proofs.DraftLemmas.{append-empty, append-first, append-joined}
use Rattle.sg_extent_map.proofs.DraftLemmas.{append-pushed}
use Rattle.sg_extent_map.proofs.DraftLemmas.{draft-room}
use Rattle.std.proofs.Common.{refl, sym, ◌∙◌}
use Rattle.sg_extent_map.proofs.draft.append.Goals as goal

pub returns-then-run-eq0 : goal.returns-then-run-eq0
returns-then-run-eq0 c = append-empty c.args.draft.now c.args.done c.args.run (c.if-run-eq0.true)

pub returns-then-done-eq0 : goal.returns-then-done-eq0
returns-then-done-eq0 c = append-first c.args.draft.now c.args.done c.args.run c.if-done-eq0.true

pub returns-then-continues : goal.returns-then-continues
returns-then-continues c =
    append-joined c.args.draft.now c.args.done c.args.run _
    (sym c.continues.ensures ∙ c.if-continues.true) (omega (arith, c.if-done-eq0.false))
    (omega (arith, c.if-run-eq0.false)) refl

pub push-requires : goal.push-requires
push-requires c =
    let room = draft-room _ c.args.draft.now c.args.done c.requires.drafted in
    omega (arith, room, c.if-done-eq0.false)

pub returns : goal.returns
returns c =
    append-pushed c.args.draft.now c.push.new.self c.args.done c.args.run
    (sym c.continues.ensures ∙ c.if-continues.false) (omega (arith, c.if-done-eq0.false))
    (omega (arith, c.if-run-eq0.false)) c.push.ensures
