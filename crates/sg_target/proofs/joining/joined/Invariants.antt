use Rattle.std.proofs.Common.{take, map}
use Rattle.sg_target.specs.Joining.{AreJoined, range_of}
use Rattle.sg_target.proofs.joining.joined.Given as goal

-- those so far are joined
abbrev pub invariant-loop-extent : goal.invariant-loop-extent
invariant-loop-extent l = AreJoined (map range_of (take l.extent-index l.extents)) l.joined.items
