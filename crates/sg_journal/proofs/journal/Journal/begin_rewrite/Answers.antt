use Rattle.std.proofs.Common.{◌≡◌, ℕ, List, [], length, refl, sym, ◌∙◌, ap, subst}
use Rattle.std.specs.Prelude.{Ok}
use Rattle.sg_journal.specs.BatchValue.{BatchValue}
use Rattle.sg_journal.specs.Layout.{first_sector}
use Rattle.sg_journal.specs.Journal.{found, IsHead}
use Rattle.sg_journal.proofs.Buffers.{first_is}
use Rattle.sg_journal.proofs.Heads.{first_head, length_first}
use Rattle.sg_journal.proofs.Moments.{on_ok_weaker, weaker}
use Rattle.sg_journal.proofs.States.{same_has}
use Rattle.sg_journal.proofs.journal.Journal.begin_rewrite.Goals as goal

pub returns-clause-begun : goal.returns-clause-begun
returns-clause-begun g c =
    let j = c.args.self.now in
    let d = c.begin_draft_with.new.device in
    let sector : length c.batch.inside.gate.items ≡ j.sector =
    ap (λ (v : BatchValue). v.sector) c.batch.view_is ∙ c.requires.sector in
    let same = c.begin_draft_with.ensures.seen in
    on_ok_weaker c.begin_draft_with.result
    (λ is bs ws s.
    let first : g.D.Device.draft d ≡ first_sector j.sector =
    is ∙ c.deref.ensures.value
    ∙ first_is c.batch.inside.gate c.deref_mut.result.now c.write_first_sector.new.sector j.sector
    c.deref_mut.ensures.value c.write_first_sector.ensures sector s.valid in
    record {
      waiting = ws;
      stands = same_has g.D.Device.seen g.D.Device.may_leave j _ bs ws s refl refl refl refl same
          c.begin_draft_with.ensures.crash;
      drafts = subst (λ (f : List ℕ). IsHead j.sector f []) (sym first)
          (first_head j.sector s.valid);
      length = sym (ap length first ∙ length_first j.sector s.valid);
    })
    c.begin_draft_with.ensures.draft

pub returns-clause-any_moment : goal.returns-clause-any_moment
returns-clause-any_moment g c bs ws s =
    let j = c.args.self.now in
    weaker g.D.Device.moment g.D.Device.left_since j.device c.begin_draft_with.new.device
    (g.D.Device.may_leave j.device) (λ f. found f ≡ Ok bs) c.begin_draft_with.ensures.any_moment
    s.crash
