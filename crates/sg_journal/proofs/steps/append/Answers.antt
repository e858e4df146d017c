use Rattle.std.proofs.Common.{length}
use Rattle.sg_journal.specs.Device.{Torn}
use Rattle.sg_journal.specs.Journal.{IsGrown}
use Rattle.sg_journal.proofs.Moments.{called, goes_on}
use Rattle.sg_journal.proofs.Changes.{grown_none, torn_grown}
use Rattle.sg_journal.proofs.steps.append.Goals as goal

pub returns-in_err-write_at-clause-any_moment : goal.returns-in_err-write_at-clause-any_moment
returns-in_err-write_at-clause-any_moment g c =
    let d = c.args.device.now in
    let P = IsGrown (length c.args.bytes.now) (g.D.Device.seen d) in
    (called g.D.Device.moment g.D.Device.left_since (Torn c.args.end (length c.args.bytes.now)) _ _
    _ _ _ P c.requires.durable
    (g.met.D.Device.only_now d) c.write_at.ensures.time c.write_at.ensures.crash
    (grown_none _ _) (λ f torn. torn_grown _ _ _ f c.requires.end torn)).leaves

pub returns-clause-any_moment : goal.returns-clause-any_moment
returns-clause-any_moment g c =
    let d = c.args.device.now in
    let P = IsGrown (length c.args.bytes.now) (g.D.Device.seen d) in
    let done = called g.D.Device.moment g.D.Device.left_since
    (Torn c.args.end (length c.args.bytes.now)) _ _ _ _ _ P
    c.requires.durable (g.met.D.Device.only_now d) c.write_at.ensures.time c.write_at.ensures.crash
    (grown_none _ _) (λ f torn. torn_grown _ _ _ f c.requires.end torn) in
    goes_on g.D.Device.moment g.D.Device.left_since d c.write_at.new.self c.sync.new.self P _
    done.leaves c.sync.ensures.time (λ f now. done.now f (c.sync.ensures.crash f now))
