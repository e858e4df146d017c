use Rattle.std.proofs.Common.{◌≡◌, ◌≤◌, take}
use Rattle.std.specs.List.{sum_by}
use Rattle.sg_block_map.specs.Gathering.{overlap}
use Rattle.sg_block_map.specs.Runs.{blocks_of}
use Rattle.sg_block_map.proofs.gather.used_between.Given as goal

-- the runs so far are counted
abbrev pub invariant-loop-run : goal.invariant-loop-run
invariant-loop-run l = record {
  used : l.used ≡ sum_by (overlap l.low l.high) (take l.run-index l.runs);
  fits : l.used ≤ blocks_of (take l.run-index l.runs);
}
