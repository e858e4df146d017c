use Rattle.std.proofs.Common.{◌≡◌, drop}
use Rattle.sg_wire.specs.CdbDecoding.{first_bad}
use Rattle.sg_wire.proofs.command.masks.first_bad.Given as goal

-- no byte so far is bad
abbrev pub invariant-loop-byte : goal.invariant-loop-byte
invariant-loop-byte l =
    first_bad l.byte (drop l.byte l.masks) (drop l.byte l.cdb) ≡ first_bad 0 l.masks l.cdb
