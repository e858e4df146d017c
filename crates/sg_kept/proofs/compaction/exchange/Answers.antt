use Rattle.std.proofs.Common.{◌≡◌, [], ◌∷◌, ◌++◌, inl, length, sym, ap, ◌∙◌, arith}
use Rattle.std.specs.Prelude.{Ok, Some, ◌⊎◌}
use Rattle.sg_journal.specs.BatchValue.{BatchValue}
use Rattle.sg_journal.specs.Journal.{found}
use Rattle.sg_kept.specs.Kept.{restored}
use Rattle.sg_kept.specs.Opened.{filed, opened}
use Rattle.sg_kept.proofs.CompactionLemmas.{exchanged-or, sector-most, then-leaves, weighed}
use Rattle.sg_kept.proofs.MomentsLemmas.{weaker}
use Rattle.sg_kept.proofs.compaction.exchange.Goals as goal

pub finish_rewrite-requires-clause-drafts : goal.finish_rewrite-requires-clause-drafts
finish_rewrite-requires-clause-drafts g c =
    let s = c.requires.drafted.1 in (
      s.batches,
      s.drafted ++ c.last.inside.batch.records ∷ [],
      c.in_ok-rewrite.ensures.added s.batches s.drafted s.drafts,
    )

pub returns-in_err-finish_rewrite-clause-any_moment : goal.returns-in_err-finish_rewrite-clause-any_moment
returns-in_err-finish_rewrite-clause-any_moment g c left s =
    let old = c.args.journal.now.device in
    let all = s.drafted ++ c.last.inside.batch.records ∷ [] in
    let files = ap (λ (b : BatchValue). filed (s.drafted ++ b.records ∷ [])) c.last.view_is ∙ s.leaves in
    let f = s.drafts.stands.found in
    then-leaves g.D.Device.moment g.D.Device.left_since old c.rewrite.new.self.device
    c.finish_rewrite.new.self.device (λ file. found file ≡ Ok s.batches) _ _
    (c.rewrite.ensures.any_moment s.batches s.drafted s.drafts)
    (c.finish_rewrite.ensures.any_moment s.batches all
    (c.in_ok-rewrite.ensures.added s.batches s.drafted s.drafts))
    (λ file was. inl (was ∙ sym f))
    (λ file here. exchanged-or (g.D.Device.seen old) s.batches all left f files file here)

pub returns-clause-any_moment : goal.returns-clause-any_moment
returns-clause-any_moment g c left s =
    let old = c.args.journal.now.device in
    let all = s.drafted ++ c.last.inside.batch.records ∷ [] in
    let files = ap (λ (b : BatchValue). filed (s.drafted ++ b.records ∷ [])) c.last.view_is ∙ s.leaves in
    let f = s.drafts.stands.found in
    then-leaves g.D.Device.moment g.D.Device.left_since old c.rewrite.new.self.device
    c.finish_rewrite.new.self.device (λ file. found file ≡ Ok s.batches) _ _
    (c.rewrite.ensures.any_moment s.batches s.drafted s.drafts)
    (c.finish_rewrite.ensures.any_moment s.batches all
    (c.in_ok-rewrite.ensures.added s.batches s.drafted s.drafts))
    (λ file was. inl (was ∙ sym f))
    (λ file here. exchanged-or (g.D.Device.seen old) s.batches all left f files file here)

pub returns-clause-stands : goal.returns-clause-stands
returns-clause-stands g c left s =
    let all = s.drafted ++ c.last.inside.batch.records ∷ [] in
    record {
      batches = all;
      stands = c.in_ok-finish_rewrite.ensures.exchanged s.batches all
          (c.in_ok-rewrite.ensures.added s.batches s.drafted s.drafts);
      files = ap (λ (b : BatchValue). filed (s.drafted ++ b.records ∷ [])) c.last.view_is ∙ s.leaves;
    }

pub returns-clause-end : goal.returns-clause-end
returns-clause-end g c =
    let journal = c.args.journal.now in
    let s = c.requires.drafted.1 in
    let count = ap (λ (b : BatchValue). length b.records) c.last.view_is in
    let weight = weighed journal.sector journal.drafted (length c.last.inside.batch.records)
    s.drafts.stands.valid in
    omega (arith, c.finish_rewrite.ensures.end, c.rewrite.ensures.drafted, weight, count)

pub returns-in_err-rewrite-clause-any_moment : goal.returns-in_err-rewrite-clause-any_moment
returns-in_err-rewrite-clause-any_moment g c left s =
    let before = g.D.Device.seen c.args.journal.now.device in
    weaker g.D.Device.moment g.D.Device.left_since c.args.journal.now.device c.rewrite.new.self.device
    (λ f. found f ≡ Ok s.batches) (λ f. (found f ≡ found before) ⊎ (opened f ≡ Some (restored left)))
    (c.rewrite.ensures.any_moment s.batches s.drafted s.drafts)
    (λ f is. inl (is ∙ sym s.drafts.stands.found))

pub returns-clause-length : goal.returns-clause-length
returns-clause-length g c =
    let s = c.requires.drafted.1 in
    let most = sector-most c.args.journal.now.sector s.drafts.stands.valid in
    omega (
      arith,
      most.1,
      c.finish_rewrite.ensures.end,
      c.finish_rewrite.ensures.length,
      c.rewrite.ensures.sector,
    )
