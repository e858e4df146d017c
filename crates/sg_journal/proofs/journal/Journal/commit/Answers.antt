use Rattle.std.proofs.Common.{◌≡◌, ⊎_elim, inl, ℕ, ◌<◌, List, ◌++◌, length}
use Rattle.std.proofs.Common.{refl, sym, ◌∙◌, ap, subst, arith}
use Rattle.sg_journal.specs.BatchValue.{BatchValue}
use Rattle.sg_journal.specs.Device.{Holds}
use Rattle.sg_journal.specs.Layout.{open_gate}
use Rattle.sg_journal.specs.Journal.{IsBeforeOrAfter, IsPut}
use Rattle.sg_journal.specs.JournalState.{HasTail, IsWaiting}
use Rattle.sg_journal.proofs.Buffers.{gate_is, put_length}
use Rattle.sg_journal.proofs.Ends.{closed_long}
use Rattle.sg_journal.proofs.Moments.{weaker, on_ok_both}
use Rattle.sg_journal.proofs.States.{closed_has}
use Rattle.sg_journal.proofs.Waits.{committed, put_gate}
use Rattle.sg_journal.proofs.Written.{length_gate}
use Rattle.sg_journal.proofs.journal.Journal.commit.Goals as goal

pub returns-clause-acknowledged : goal.returns-clause-acknowledged
returns-clause-acknowledged g c =
    let j = c.args.self.now in
    let file = g.D.Device.seen j.device in
    let new = g.D.Device.seen c.exchange_gate.new.device in
    let w : ℕ = c.in-Waiting.written in
    let sector : length c.batch.inside.gate.items ≡ j.sector =
    ap (λ (v : BatchValue). v.sector) c.batch.view_is ∙ c.requires.sector in
    let some : 0 < j.sector = omega (arith, sector, c.batch.invariant.least) in
    let gate : c.deref.result.now ≡ open_gate j.sector = c.deref.ensures.value
    ∙ gate_is c.batch.inside.gate c.deref_mut.result.now c.write_gate.new.sector j.sector 1
    c.deref_mut.ensures.value c.write_gate.ensures sector some in
    on_ok_both c.exchange_gate.result
    (λ is durable bs ws s.
    let h : IsWaiting j.sector j.end w file bs ws =
    subst (λ t. HasTail t j.sector j.end file bs ws) c.in-Waiting.is s.tail in
    let put : Holds file j.end (open_gate j.sector) new =
    subst (λ (l : List ℕ). Holds file j.end l new) gate is in
    let long : length new ≡ length file =
    ap length put
    ∙ put_length j.end file (open_gate j.sector)
    (omega (
      arith,
      closed_long j.sector j.end file bs h.closed,
      length_gate j.sector 1 some,
    )) in
    closed_has g.D.Device.seen g.D.Device.may_leave _ (bs ++ ws) s.valid refl some
    (committed j.sector j.end w file bs ws h some new put) durable (s.length ∙ sym long))
    c.exchange_gate.ensures.put c.exchange_gate.ensures.durable

pub returns-clause-any_moment : goal.returns-clause-any_moment
returns-clause-any_moment g c bs ws s =
    let j = c.args.self.now in
    let file = g.D.Device.seen j.device in
    let w : ℕ = c.in-Waiting.written in
    let sector : length c.batch.inside.gate.items ≡ j.sector =
    ap (λ (v : BatchValue). v.sector) c.batch.view_is ∙ c.requires.sector in
    let some : 0 < j.sector = omega (arith, sector, c.batch.invariant.least) in
    let gate : c.deref.result.now ≡ open_gate j.sector = c.deref.ensures.value
    ∙ gate_is c.batch.inside.gate c.deref_mut.result.now c.write_gate.new.sector j.sector 1
    c.deref_mut.ensures.value c.write_gate.ensures sector some in
    let size : length c.deref.result.now ≡ j.sector = ap length gate
    ∙ length_gate j.sector 1 some in
    let h : IsWaiting j.sector j.end w file bs ws =
    subst (λ t. HasTail t j.sector j.end file bs ws) c.in-Waiting.is s.tail in
    weaker g.D.Device.moment g.D.Device.left_since j.device c.exchange_gate.new.device _
    (IsBeforeOrAfter bs ws) c.exchange_gate.ensures.any_moment
    (λ f. ⊎_elim (λ was. inl (s.crash f was))
    (λ put. put_gate j.sector j.end w file bs ws h some f
    (subst (λ (n : ℕ). IsPut j.end n file f) size put)))
