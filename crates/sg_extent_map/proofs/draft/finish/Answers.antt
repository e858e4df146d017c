use Rattle.std.proofs.Common.{ap, ◌∙◌, arith, length, length-append}
use Rattle.sg_extent_map.specs.Drafting.{drafted}
use Rattle.sg_extent_map.specs.Extents.{singles}
use Rattle.sg_extent_map.specs.Walking.{ahead_of}
use Rattle.sg_extent_map.proofs.draft.finish.Goals as goal

pub close-requires-clause-room : goal.close-requires-clause-room
close-requires-clause-room c =
    let e = c.append_ahead-done.ensures in
    let w = c.args.walk in
    let len = ap length e.addresses ∙ length-append (singles (drafted c.args.draft.now c.args.done))
    (singles (ahead_of c.args.runs.now w.run w.at)) in
    omega (arith, len, c.requires.room, e.room)

pub returns-clause-extents : goal.returns-clause-extents
returns-clause-extents c = λ pool h k.
    c.close.ensures.extents pool (c.append_ahead-done.ensures.extents pool h k)
