use Rattle.std.proofs.Common.{drop}
use Rattle.sg_target.proofs.JoiningLemmas.{IsGrown}
use Rattle.sg_target.proofs.joining.with_range.Given as goal

-- the range has grown by those so far that were near it
abbrev pub invariant-loop-other : goal.invariant-loop-other
invariant-loop-other l =
    IsGrown l.fn.range l.fn.ranges l.grown l.apart.items (drop l.other-index l.ranges)
