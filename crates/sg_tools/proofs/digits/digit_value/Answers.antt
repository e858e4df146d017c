use Rattle.std.proofs.Common.{refl, arith}
use Rattle.sg_tools.specs.declared.digits.TheConstants.{VALUES}
use Rattle.sg_tools.proofs.DigitLemmas.{value-at}
use Rattle.sg_tools.proofs.digits.digit_value.Goals as goal

pub returns : goal.returns
returns c = value-at VALUES 256 c.args.byte refl (omega arith)
