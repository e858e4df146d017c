use Rattle.sg_embed.proofs.MaskLemmas.{HasBits}
use Rattle.sg_embed.proofs.mask.mask_of.Given as goal

-- the bits so far
abbrev pub invariant-loop-number : goal.invariant-loop-number
invariant-loop-number l = HasBits l.initiators l.number l.mask

abbrev pub decreases-loop-number : goal.decreases-loop-number
decreases-loop-number l = l.number
