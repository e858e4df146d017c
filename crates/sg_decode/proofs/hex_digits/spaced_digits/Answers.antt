use Rattle.std.proofs.Common.{refl}
use Rattle.sg_decode.proofs.LaneLemmas.{lanes-are}
use Rattle.sg_decode.proofs.hex_digits.spaced_digits.Goals as goal

pub returns-clause-digits : goal.returns-clause-digits
returns-clause-digits c =
    rw (c.high_digits.ensures, c.low_digits.ensures, lanes-are c.args.bytes c.fits-bytes.0) refl
