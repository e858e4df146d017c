use Rattle.std.proofs.Common.{◌≡◌, ◌++◌, drop, map, take}
use Rattle.sg_faults.specs.Faults.{healed_slot}
use Rattle.sg_faults.proofs.faults.Faults.heal.Given as goal

-- the slots so far, and the others
abbrev pub invariant-loop-number : goal.invariant-loop-number
invariant-loop-number l =
    l.self ≡ map (healed_slot l.command) (take l.number l.fn.self) ++ drop l.number l.fn.self
