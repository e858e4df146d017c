use Rattle.sg_decode.proofs.LaneLemmas.{low_ok, low_digits-are}
use Rattle.sg_decode.proofs.hex_digits.low_digits.Goals as goal

pub swizzle : goal.swizzle
swizzle c = low_ok c.args.bytes c.fits-bytes

pub returns : goal.returns
returns c = low_digits-are c.args.bytes c.fits-bytes
