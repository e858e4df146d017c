use Rattle.std.proofs.Common.{◌≡◌, ◌≤◌, ◌*◌, ◌^◌, take}
use Rattle.sg_table.specs.Records.{FitCounts, data_in}
use Rattle.sg_table.proofs.run.data_count.Given as goal

-- the count of the records so far
abbrev pub invariant-loop-run : goal.invariant-loop-run
invariant-loop-run l = record {
  value : l.count ≡ data_in (take l.run-index l.records);
  fits : l.count ≤ l.run-index * 2 ^ 32;
  short : FitCounts (take l.run-index l.records);
}
