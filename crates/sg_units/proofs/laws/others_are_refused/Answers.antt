use Rattle.sg_units.proofs.LawLemmas.{refused_others}
use Rattle.sg_units.proofs.laws.others_are_refused.Goals as goal

pub returns : goal.returns
returns c state reservation i e k h = refused_others state reservation i e k h
