use Rattle.std.proofs.Common.{◌≡◌, ◌++◌, [], ◌∷◌, sym, ap, subst, ◌∙◌}
use Rattle.std.specs.Prelude.{Ok}
use Rattle.sg_journal.specs.BatchValue.{BatchValue}
use Rattle.sg_journal.specs.Journal.{found}
use Rattle.sg_journal.specs.JournalState.{HasBatches}
use Rattle.sg_kept.specs.Opened.{opened}
use Rattle.sg_kept.proofs.MomentsLemmas.{weaker}
use Rattle.sg_kept.proofs.OpenedLemmas.{kept-made, kept-waiting, opened-same}
use Rattle.sg_kept.proofs.disk.let_batch_wait.Goals as goal

pub write-requires-clause-made : goal.write-requires-clause-made
write-requires-clause-made g c =
    kept-made g.D.Device.seen g.D.Device.may_leave c.args.journal.now c.args.batch.now
    c.requires.kept.0 c.requires.kept.1

pub returns-in_err-write-clause-any_moment : goal.returns-in_err-write-clause-any_moment
returns-in_err-write-clause-any_moment g c =
    let before = g.D.Device.seen c.args.journal.now.device in
    let s = c.requires.kept.1 in
    weaker g.D.Device.moment g.D.Device.left_since c.args.journal.now.device c.write.new.self.device
    (λ f. found f ≡ Ok s.batches) (λ f. opened f ≡ opened before)
    (c.write.ensures.any_moment s.batches s.waiting s.stands)
    (λ f is. opened-same f before (is ∙ sym s.stands.found))

pub returns-clause-any_moment : goal.returns-clause-any_moment
returns-clause-any_moment g c =
    let before = g.D.Device.seen c.args.journal.now.device in
    let s = c.requires.kept.1 in
    weaker g.D.Device.moment g.D.Device.left_since c.args.journal.now.device c.write.new.self.device
    (λ f. found f ≡ Ok s.batches) (λ f. opened f ≡ opened before)
    (c.write.ensures.any_moment s.batches s.waiting s.stands)
    (λ f is. opened-same f before (is ∙ sym s.stands.found))

pub returns-clause-kept : goal.returns-clause-kept
returns-clause-kept g c disk s =
    let batch : c.batch.inside.batch ≡ c.args.batch.now = c.batch.view_is in
    let stands = subst (λ (b : BatchValue). HasBatches g.D.Device.seen g.D.Device.may_leave c.write.new.self
    s.batches (s.waiting ++ b.records ∷ [])) batch
    (c.in_ok-write.ensures.waits s.batches s.waiting s.stands) in
    let cleared = c.clear.ensures in
    kept-waiting g.D.Device.seen g.D.Device.may_leave c.args.journal.now c.write.new.self
    c.args.batch.now disk s c.clear.new.self stands
    (ap (λ (b : BatchValue). b.records) cleared)
    (ap (λ (b : BatchValue). b.sector) (cleared
    ∙ ap (λ (b : BatchValue). record b { records = [] }) (c.write.ensures.batch ∙ batch))
    ∙ s.sector ∙ sym c.write.ensures.sector)

pub returns-clause-same : goal.returns-clause-same
returns-clause-same g c =
    let s = c.requires.kept.1 in
    opened-same (g.D.Device.seen c.write.new.self.device) (g.D.Device.seen c.args.journal.now.device)
    ((c.in_ok-write.ensures.waits s.batches s.waiting s.stands).found ∙ sym s.stands.found)
