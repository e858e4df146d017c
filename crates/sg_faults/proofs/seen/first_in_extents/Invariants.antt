use Rattle.std.proofs.Common.{◌≡◌, drop}
use Rattle.sg_faults.specs.Meeting.{first_in}
use Rattle.sg_faults.proofs.seen.first_in_extents.Given as goal

-- the other extents decide
abbrev pub invariant-loop-extent : goal.invariant-loop-extent
invariant-loop-extent l =
    first_in (drop l.extent-index l.extents) l.blocks ≡ first_in l.extents l.blocks
