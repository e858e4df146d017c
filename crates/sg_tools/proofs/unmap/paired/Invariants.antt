use Rattle.std.proofs.Common.{◌≡◌, length, take}
use Rattle.sg_tools.specs.Requests.{paired}
use Rattle.sg_tools.proofs.unmap.paired.Given as goal

-- so many are paired
abbrev pub invariant-loop-k : goal.invariant-loop-k
invariant-loop-k l = record {
  extents : l.list ≡ paired (take l.k l.lbas) (take l.k l.counts);
  count : length l.list ≡ l.k;
}
