use Rattle.std.proofs.Common.{List, ℕ, ◌∙◌, ap}
use Rattle.sg_changes.specs.Borrowed.{change_of}
use Rattle.sg_changes.specs.Replay.{replayed}
use Rattle.sg_changes.proofs.ReplayLemmas.{replayed_push}
use Rattle.sg_changes.proofs.change.Change.write.Goals as goal

pub returns-clause-replayed : goal.returns-clause-replayed
returns-clause-replayed g c before after is =
    ap (λ (bytes : List ℕ). replayed bytes before) c.put.ensures.added
    ∙ replayed_push (g.S.Sink.contents c.args.sink.now) (change_of c.args.self.now) before after
    c.put.ensures.possible is
