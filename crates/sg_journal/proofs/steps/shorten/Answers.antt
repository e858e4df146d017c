use Rattle.sg_journal.specs.Device.{Cut}
use Rattle.sg_journal.specs.Journal.{IsCut}
use Rattle.sg_journal.proofs.Moments.{called, goes_on}
use Rattle.sg_journal.proofs.Changes.{cut_none, cut_is}
use Rattle.sg_journal.proofs.steps.shorten.Goals as goal

pub returns-in_err-cut-clause-any_moment : goal.returns-in_err-cut-clause-any_moment
returns-in_err-cut-clause-any_moment g c =
    let d = c.args.device.now in
    let P = IsCut c.args.len (g.D.Device.seen d) in
    (called g.D.Device.moment g.D.Device.left_since (Cut c.args.len) _ _ _ _ _ P c.requires.durable
    (g.met.D.Device.only_now d) c.cut.ensures.time c.cut.ensures.crash
    (cut_none _ _ c.requires.len) (λ f torn. cut_is _ _ f torn)).leaves

pub returns-clause-any_moment : goal.returns-clause-any_moment
returns-clause-any_moment g c =
    let d = c.args.device.now in
    let P = IsCut c.args.len (g.D.Device.seen d) in
    let done = called g.D.Device.moment g.D.Device.left_since (Cut c.args.len) _ _ _ _ _ P
    c.requires.durable (g.met.D.Device.only_now d) c.cut.ensures.time c.cut.ensures.crash
    (cut_none _ _ c.requires.len) (λ f torn. cut_is _ _ f torn) in
    goes_on g.D.Device.moment g.D.Device.left_since d c.cut.new.self c.sync.new.self P _
    done.leaves c.sync.ensures.time (λ f now. done.now f (c.sync.ensures.crash f now))
