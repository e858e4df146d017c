use Rattle.std.proofs.Common.{inr, ◌≡◌, ◌++◌, [], ◌∷◌, List, ℕ, sym, ap, subst, ◌∙◌}
use Rattle.sg_journal.specs.BatchValue.{BatchValue}
use Rattle.sg_journal.specs.Device.{LeavesOnly}
use Rattle.sg_journal.specs.Journal.{IsBeforeOrAfter}
use Rattle.sg_journal.specs.JournalState.{HasBatches}
use Rattle.sg_kept.proofs.OpenedLemmas.{kept-flushed, moments-flushed, opened-flushed}
use Rattle.sg_kept.proofs.disk.write_batch.Goals as goal

pub returns-in_err-flush-clause-any_moment : goal.returns-in_err-flush-clause-any_moment
returns-in_err-flush-clause-any_moment g c disk s =
    let batch : c.batch.inside.batch ≡ c.args.batch.now = c.batch.view_is in
    let before = c.args.journal.now.device in
    let after = c.flush.new.self.device in
    moments-flushed g.D.Device.seen g.D.Device.may_leave c.args.journal.now c.flush.new.self
    c.args.batch.now disk s (s.waiting ++ c.args.batch.now.records ∷ []) s.waits g.D.Device.moment
    g.D.Device.left_since after (c.power_cycles_leave_what_is_kept.ensures.restored disk)
    (subst (λ (b : BatchValue). LeavesOnly g.D.Device.moment g.D.Device.left_since before after
    (IsBeforeOrAfter s.batches (s.waiting ++ b.records ∷ []))) batch
    (c.flush.ensures.any_moment s.batches s.waiting s.stands))

pub returns-clause-any_moment : goal.returns-clause-any_moment
returns-clause-any_moment g c disk s =
    let batch : c.batch.inside.batch ≡ c.args.batch.now = c.batch.view_is in
    let before = c.args.journal.now.device in
    let after = c.flush.new.self.device in
    moments-flushed g.D.Device.seen g.D.Device.may_leave c.args.journal.now c.flush.new.self
    c.args.batch.now disk s (s.waiting ++ c.args.batch.now.records ∷ []) s.waits g.D.Device.moment
    g.D.Device.left_since after (c.power_cycles_leave_what_is_kept.ensures.restored disk)
    (subst (λ (b : BatchValue). LeavesOnly g.D.Device.moment g.D.Device.left_since before after
    (IsBeforeOrAfter s.batches (s.waiting ++ b.records ∷ []))) batch
    (c.flush.ensures.any_moment s.batches s.waiting s.stands))

pub returns-clause-kept : goal.returns-clause-kept
returns-clause-kept g c disk s =
    let batch : c.batch.inside.batch ≡ c.args.batch.now = c.batch.view_is in
    let ws : List (List ℕ) = s.waiting ++ c.args.batch.now.records ∷ [] in
    let stands : HasBatches g.D.Device.seen g.D.Device.may_leave c.flush.new.self (s.batches ++ ws) [] =
    subst (λ (b : BatchValue). HasBatches g.D.Device.seen g.D.Device.may_leave c.flush.new.self
    (s.batches ++ (s.waiting ++ b.records ∷ [])) []) batch
    (c.in_ok-flush.ensures.acknowledged s.batches s.waiting s.stands) in
    let cleared = c.clear.ensures in
    kept-flushed g.D.Device.seen g.D.Device.may_leave c.args.journal.now c.flush.new.self
    c.args.batch.now disk s ws s.waits stands c.clear.new.self
    (ap (λ (b : BatchValue). b.records) cleared)
    (ap (λ (b : BatchValue). b.sector) (cleared
    ∙ ap (λ (b : BatchValue). record b { records = [] }) (c.flush.ensures.batch ∙ batch))
    ∙ s.sector ∙ sym c.flush.ensures.sector)

pub returns-clause-flushed : goal.returns-clause-flushed
returns-clause-flushed g c disk s =
    let batch : c.batch.inside.batch ≡ c.args.batch.now = c.batch.view_is in
    let ws : List (List ℕ) = s.waiting ++ c.args.batch.now.records ∷ [] in
    let stands : HasBatches g.D.Device.seen g.D.Device.may_leave c.flush.new.self (s.batches ++ ws) [] =
    subst (λ (b : BatchValue). HasBatches g.D.Device.seen g.D.Device.may_leave c.flush.new.self
    (s.batches ++ (s.waiting ++ b.records ∷ [])) []) batch
    (c.in_ok-flush.ensures.acknowledged s.batches s.waiting s.stands) in
    opened-flushed g.D.Device.seen g.D.Device.may_leave c.args.journal.now c.flush.new.self
    c.args.batch.now disk s ws s.waits stands (c.power_cycles_leave_what_is_kept.ensures.restored disk)

pub returns-clause-left : goal.returns-clause-left
returns-clause-left g c disk s = inr (returns-clause-flushed g c disk s)
