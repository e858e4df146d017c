use Rattle.std.proofs.Common.{◌<◌, ◌^◌}
use Rattle.sg_tools.proofs.NumberLemmas.{ReadsDigits}
use Rattle.sg_tools.proofs.number.read_digits.Given as goal

abbrev pub invariant-loop-byte : goal.invariant-loop-byte
invariant-loop-byte l = record
    { so_far : ReadsDigits l.radix l.digits l.byte-index l.number; small : l.number < 2 ^ 64 }
