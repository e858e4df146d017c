use Rattle.sg_target.proofs.ConfigurationLemmas.{growth-grows, happening-keeps, step-keeps}
use Rattle.sg_target.proofs.laws.the_configuration_stays.Goals as goal

pub returns : goal.returns
returns c =
    record { command = step-keeps; happening = happening-keeps; growth = growth-grows }
