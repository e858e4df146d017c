use Rattle.sg_decode.proofs.LaneLemmas.{high_ok, high_digits-are}
use Rattle.sg_decode.proofs.hex_digits.high_digits.Goals as goal

pub swizzle : goal.swizzle
swizzle c = high_ok c.args.bytes c.fits-bytes

pub returns : goal.returns
returns c = high_digits-are c.args.bytes c.fits-bytes
