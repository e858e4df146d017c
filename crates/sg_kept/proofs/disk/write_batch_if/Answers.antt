use Rattle.std.proofs.Common.{inl, refl}
use Rattle.sg_kept.proofs.OpenedLemmas.{untouched}
use Rattle.sg_kept.proofs.disk.write_batch_if.Goals as goal

pub returns-clause-any_moment : goal.returns-clause-any_moment
returns-clause-any_moment g c disk s =
    let journal = c.args.journal.now in
    untouched g.D.Device.seen g.D.Device.may_leave g.D.Device.moment g.D.Device.left_since journal
    s.batches s.waiting disk s.stands (g.met.D.Device.only_now journal.device)

pub returns-clause-left : goal.returns-clause-left
returns-clause-left g c disk s = inl refl
