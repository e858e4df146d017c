use Rattle.std.proofs.Common.{sym, ap, ◌∙◌}
use Rattle.sg_journal.specs.BatchValue.{BatchValue}
use Rattle.sg_kept.specs.Kept.{kept}
use Rattle.sg_kept.proofs.MomentsLemmas.{on-ok}
use Rattle.sg_kept.proofs.OpenedLemmas.{kept-flushed, moments-flushed, opened-flushed, without-last}
use Rattle.sg_kept.proofs.disk.commit_waiting.Goals as goal

pub returns-clause-kept : goal.returns-clause-kept
returns-clause-kept g c =
    let empty = c.requires.empty in
    on-ok c.commit.result (λ acknowledged disk s.
    let leads = without-last s.waiting c.args.batch.now.records s.left (kept disk) empty s.waits in
    let same = c.commit.ensures.batch ∙ c.batch.view_is in
    kept-flushed g.D.Device.seen g.D.Device.may_leave c.args.journal.now c.commit.new.self
    c.args.batch.now disk s s.waiting leads (acknowledged s.batches s.waiting s.stands)
    c.commit.new.batch (ap (λ (b : BatchValue). b.records) same ∙ empty)
    (ap (λ (b : BatchValue). b.sector) same ∙ s.sector ∙ sym c.commit.ensures.sector))
    c.commit.ensures.acknowledged

pub returns-clause-flushed : goal.returns-clause-flushed
returns-clause-flushed g c =
    let empty = c.requires.empty in
    on-ok c.commit.result (λ acknowledged disk s.
    let leads = without-last s.waiting c.args.batch.now.records s.left (kept disk) empty s.waits in
    opened-flushed g.D.Device.seen g.D.Device.may_leave c.args.journal.now c.commit.new.self
    c.args.batch.now disk s s.waiting leads (acknowledged s.batches s.waiting s.stands)
    (c.power_cycles_leave_what_is_kept.ensures.restored disk))
    c.commit.ensures.acknowledged

pub returns-clause-any_moment : goal.returns-clause-any_moment
returns-clause-any_moment g c disk s =
    let empty = c.requires.empty in
    let leads = without-last s.waiting c.args.batch.now.records s.left (kept disk) empty s.waits in
    moments-flushed g.D.Device.seen g.D.Device.may_leave c.args.journal.now c.commit.new.self
    c.args.batch.now disk s s.waiting leads g.D.Device.moment g.D.Device.left_since
    c.commit.new.self.device (c.power_cycles_leave_what_is_kept.ensures.restored disk)
    (c.commit.ensures.any_moment s.batches s.waiting s.stands)
