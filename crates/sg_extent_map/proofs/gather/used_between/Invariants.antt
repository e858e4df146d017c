use Rattle.std.proofs.Common.{◌≡◌, take}
use Rattle.sg_extent_map.specs.Gathering.{overlaps}
use Rattle.sg_extent_map.proofs.gather.used_between.Given as goal

-- the extents so far are counted
abbrev pub invariant-loop-run : goal.invariant-loop-run
invariant-loop-run l = l.used ≡ overlaps l.low l.high (take l.run-index l.runs)
