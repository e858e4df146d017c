use Rattle.sg_fencing.proofs.PoweredRunLemmas.{calls-alike}
use Rattle.sg_fencing.proofs.laws.a_holder_is_served_as_if_alone.Goals as goal

pub returns : goal.returns
returns c state holder calls w held starts keeps =
    calls-alike c.limits_are_kept.ensures c.others_are_refused.ensures c.one_key_each.ensures
    c.commands_have_their_class.ensures holder state calls w held starts keeps
