use Rattle.sg_fencing.proofs.OwnLemmas.{own-alike}
use Rattle.sg_fencing.proofs.laws.equal_views_of_a_holder_end_alike.Goals as goal

pub returns : goal.returns
returns c first second holder cdb data_out w w' identity view held keeps =
    let h =
    own-alike c.one_key_each.ensures first second holder cdb data_out w w' identity view held keeps in
    record { view = h.view; answer = h.answer }
