use Rattle.std.proofs.Common.{refl}
use Rattle.hex.specs.Hex.{encode_with}
use Rattle.sg_decode.proofs.hex_digits.spaced_offset.Goals as goal

pub returns-clause-text : goal.returns-clause-text
unfolding encode_with
returns-clause-text c = rw (c.high_digits.ensures, c.low_digits.ensures, c.to_be_bytes.ensures) refl
