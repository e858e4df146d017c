use Rattle.sg_units.proofs.LawLemmas.{key_each}
use Rattle.sg_units.proofs.laws.one_key_each.Goals as goal

pub returns : goal.returns
returns c state i first second h e f =
    key_each state.registrations i first second (h.one_each i) e f
