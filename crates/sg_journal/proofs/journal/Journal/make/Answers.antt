use Rattle.std.proofs.Common.{◌≡◌, ⊎_elim, inl, inr, ℕ, List, [], ◌∷◌, ◌++◌, sym, ◌∙◌, ap, subst}
use Rattle.std.proofs.Common.{arith}
use Rattle.std.specs.Prelude.{Ok}
use Rattle.sg_journal.specs.BatchValue.{BatchValue}
use Rattle.sg_journal.specs.Journal.{found, IsBeforeOrAfter}
use Rattle.sg_journal.specs.JournalState.{HasTail, IsUnmade, HasBatches}
use Rattle.sg_journal.proofs.Heads.{sector_within}
use Rattle.sg_journal.proofs.Moments.{then_leaves, on_ok_weaker}
use Rattle.sg_journal.proofs.journal.Journal.make.Goals as goal

pub rewrite-requires-clause-room : goal.rewrite-requires-clause-room
rewrite-requires-clause-room g c =
    let s = c.requires.batches.2 in
    omega (arith, c.begin_rewrite.ensures.drafted, sector_within c.args.self.now.sector s.valid)

pub finish_rewrite-requires-clause-room : goal.finish_rewrite-requires-clause-room
finish_rewrite-requires-clause-room g c =
    let s = c.requires.batches.2 in
    omega (
      arith,
      c.rewrite.ensures.at_most,
      c.begin_rewrite.ensures.drafted,
      sector_within c.args.self.now.sector s.valid,
    )

pub finish_rewrite-requires-clause-drafts : goal.finish_rewrite-requires-clause-drafts
finish_rewrite-requires-clause-drafts g c =
    let bs = c.requires.batches.0 in
    let begun = c.in_ok-begin_rewrite.ensures.begun bs c.requires.batches.1 c.requires.batches.2 in
    (bs, [] ++ c.begin_rewrite.new.batch.records ∷ [], c.in_ok-rewrite.ensures.added bs [] begun)

pub returns-clause-acknowledged : goal.returns-clause-acknowledged
returns-clause-acknowledged g c =
    let j = c.args.self.now in
    let b = c.args.batch.now in
    on_ok_weaker c.finish_rewrite.result
    (λ exchanged bs ws s.
    let unmade : IsUnmade j.end (g.D.Device.seen j.device) bs × (ws ≡ []) =
    subst (λ t. HasTail t j.sector j.end (g.D.Device.seen j.device) bs ws) c.requires.unmade s.tail in
    let begun = c.in_ok-begin_rewrite.ensures.begun bs ws s in
    let drafts = c.in_ok-rewrite.ensures.added bs [] begun in
    let same = ap (λ (v : BatchValue). v.records) c.begin_rewrite.ensures.batch in
    let is : [] ++ c.begin_rewrite.new.batch.records ∷ [] ≡ bs ++ (ws ++ b.records ∷ []) =
    ap (λ (l : List ℕ). l ∷ []) same
    ∙ sym (ap (λ (l : List (List ℕ)). l ++ b.records ∷ []) unmade.1)
    ∙ sym (ap (λ (l : List (List ℕ)). l ++ (ws ++ b.records ∷ [])) unmade.0.nothing) in
    subst (λ (l : List (List ℕ)). HasBatches g.D.Device.seen g.D.Device.may_leave
    c.finish_rewrite.new.self l []) is
    (exchanged bs ([] ++ c.begin_rewrite.new.batch.records ∷ []) drafts))
    c.finish_rewrite.ensures.exchanged

pub returns-clause-any_moment : goal.returns-clause-any_moment
returns-clause-any_moment g c bs ws s =
    let j = c.args.self.now in
    let b = c.args.batch.now in
    let unmade : IsUnmade j.end (g.D.Device.seen j.device) bs × (ws ≡ []) =
    subst (λ t. HasTail t j.sector j.end (g.D.Device.seen j.device) bs ws) c.requires.unmade s.tail in
    let begun = c.in_ok-begin_rewrite.ensures.begun bs ws s in
    let drafts = c.in_ok-rewrite.ensures.added bs [] begun in
    let same = ap (λ (v : BatchValue). v.records) c.begin_rewrite.ensures.batch in
    let is : [] ++ c.begin_rewrite.new.batch.records ∷ [] ≡ bs ++ (ws ++ b.records ∷ []) =
    ap (λ (l : List ℕ). l ∷ []) same
    ∙ sym (ap (λ (l : List (List ℕ)). l ++ b.records ∷ []) unmade.1)
    ∙ sym (ap (λ (l : List (List ℕ)). l ++ (ws ++ b.records ∷ [])) unmade.0.nothing) in
    let moment = g.D.Device.moment in
    let since = g.D.Device.left_since in
    let before : List ℕ → Type 0 = λ f. found f ≡ Ok bs in
    let first = then_leaves moment since j.device c.begin_rewrite.new.self.device
    c.rewrite.new.self.device
    before before before (c.begin_rewrite.ensures.any_moment bs ws s)
    (c.rewrite.ensures.any_moment bs [] begun) (λ f e. e) (λ f e. e) in
    then_leaves moment since j.device c.rewrite.new.self.device c.finish_rewrite.new.self.device
    before _
    (IsBeforeOrAfter bs (ws ++ b.records ∷ [])) first
    (c.finish_rewrite.ensures.any_moment bs ([] ++ c.begin_rewrite.new.batch.records ∷ []) drafts)
    (λ f e. inl e)
    (λ f. ⊎_elim (λ e. inl e) (λ e. inr (e ∙ ap (λ (l : List (List ℕ)). Ok l) is)))
