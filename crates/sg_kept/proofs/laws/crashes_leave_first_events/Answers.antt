use Rattle.sg_kept.proofs.HistoryLemmas.{crashes-leave, history-begins}
use Rattle.sg_kept.proofs.laws.crashes_leave_first_events.Goals as goal

pub returns-clause-begins : goal.returns-clause-begins
returns-clause-begins g c = history-begins g.D.Device.seen c.args.disk.now c.requires.written

pub returns-clause-crash : goal.returns-clause-crash
returns-clause-crash g c =
    crashes-leave g.D.Device.seen g.D.Device.moment g.D.Device.left_since c.args.disk.now c.requires.alive
    (history-begins g.D.Device.seen c.args.disk.now c.requires.written)
