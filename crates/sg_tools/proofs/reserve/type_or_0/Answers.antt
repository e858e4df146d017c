use Rattle.std.proofs.Common.{arith, sym}
use Rattle.sg_tools.proofs.NumberLemmas.{one_digit}
use Rattle.sg_tools.proofs.reserve.type_or_0.Goals as goal

pub overflow_cast-result : goal.overflow_cast-result
overflow_cast-result c = let small = one_digit c.as_bytes.result.now
    c.in_ok-read_hex_digits-in-Some.field-0 (sym c.in_ok-read_hex_digits-in-Some.ensures) in omega
    (arith, small)
