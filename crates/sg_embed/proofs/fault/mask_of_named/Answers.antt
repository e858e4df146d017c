use Rattle.sg_embed.proofs.MaskLemmas.{named}
use Rattle.sg_embed.proofs.fault.mask_of_named.Goals as goal

pub returns : goal.returns
returns c = named c.args.initiators.now c.mask_of.result c.mask_of.ensures c.requires.somebody
