use Rattle.std.proofs.Common.{◌≡◌, [], ◌∷◌, ◌++◌, length, sym, ap, subst, ◌∙◌, arith}
use Rattle.std.specs.Prelude.{Ok}
use Rattle.sg_journal.specs.BatchValue.{BatchValue}
use Rattle.sg_journal.specs.Journal.{found}
use Rattle.sg_journal.specs.JournalState.{Drafts}
use Rattle.sg_kept.proofs.CompactionLemmas.{drafted-next, weighed}
use Rattle.sg_kept.proofs.MomentsLemmas.{weaker}
use Rattle.sg_kept.proofs.compaction.draft_batch.Goals as goal

pub returns-clause-drafted : goal.returns-clause-drafted
returns-clause-drafted g c left s =
    let batch : c.batch.inside.batch ≡ c.args.batch.now = c.batch.view_is in
    let drafts = subst (λ (b : BatchValue). Drafts g.D.Device.seen g.D.Device.may_leave g.D.Device.draft
    c.rewrite.new.self s.batches (s.drafted ++ b.records ∷ [])) batch
    (c.in_ok-rewrite.ensures.added s.batches s.drafted s.drafts) in
    drafted-next g.D.Device.seen g.D.Device.may_leave g.D.Device.draft c.args.journal.now
    c.rewrite.new.self c.args.batch.now c.clear.new.self left s drafts
    (ap (λ (b : BatchValue). b.records) c.clear.ensures)
    (ap (λ (b : BatchValue). b.sector) (c.clear.ensures
    ∙ ap (λ (b : BatchValue). record b { records = [] }) (c.rewrite.ensures.batch ∙ batch))
    ∙ s.sector ∙ sym c.rewrite.ensures.sector)

pub returns-clause-same : goal.returns-clause-same
returns-clause-same g c =
    let s = c.requires.drafted.1 in
    (c.in_ok-rewrite.ensures.added s.batches s.drafted s.drafts).stands.found ∙ sym s.drafts.stands.found

pub returns-clause-at_most : goal.returns-clause-at_most
returns-clause-at_most g c =
    let journal = c.args.journal.now in
    let s = c.requires.drafted.1 in
    let count = ap (λ (b : BatchValue). length b.records) c.batch.view_is in
    let none : length c.clear.new.self.records ≡ 0 =
    ap (λ (b : BatchValue). length b.records) c.clear.ensures in
    let size = c.rewrite.ensures.drafted in
    let weight = weighed journal.sector journal.drafted (length c.batch.inside.batch.records)
    s.drafts.stands.valid in
    omega (arith, size, weight, none, count)

pub returns-in_err-rewrite-clause-any_moment : goal.returns-in_err-rewrite-clause-any_moment
returns-in_err-rewrite-clause-any_moment g c =
    let before = g.D.Device.seen c.args.journal.now.device in
    let s = c.requires.drafted.1 in
    weaker g.D.Device.moment g.D.Device.left_since c.args.journal.now.device c.rewrite.new.self.device
    (λ f. found f ≡ Ok s.batches) (λ f. found f ≡ found before)
    (c.rewrite.ensures.any_moment s.batches s.drafted s.drafts)
    (λ f is. is ∙ sym s.drafts.stands.found)

pub returns-clause-any_moment : goal.returns-clause-any_moment
returns-clause-any_moment g c =
    let before = g.D.Device.seen c.args.journal.now.device in
    let s = c.requires.drafted.1 in
    weaker g.D.Device.moment g.D.Device.left_since c.args.journal.now.device c.rewrite.new.self.device
    (λ f. found f ≡ Ok s.batches) (λ f. found f ≡ found before)
    (c.rewrite.ensures.any_moment s.batches s.drafted s.drafts)
    (λ f is. is ∙ sym s.drafts.stands.found)
