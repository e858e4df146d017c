use Rattle.std.proofs.Common.{◌≡◌, ◌++◌, drop, take}
use Rattle.sg_faults.specs.Faults.{with_fault}
use Rattle.sg_faults.proofs.faults.Faults.arm.Given as goal

-- no number so far is free
abbrev pub invariant-loop-number : goal.invariant-loop-number
invariant-loop-number l = record {
  same : l.self ≡ l.fn.self;
  rest : take l.number l.self ++ with_fault (drop l.number l.self) l.fault ≡ with_fault l.self l.fault;
}
