use Rattle.std.proofs.Common.{◌≡◌, ⊎_elim, inl, inr, ℕ, ◌<◌, List, ◌++◌, length, refl, ◌∙◌, ap}
use Rattle.std.proofs.Common.{arith, length-append}
use Rattle.std.specs.Prelude.{Ok, ◌⊎◌}
use Rattle.sg_journal.specs.BatchValue.{BatchValue}
use Rattle.sg_journal.specs.Layout.{closed_gate}
use Rattle.sg_journal.specs.Journal.{found}
use Rattle.sg_journal.proofs.Buffers.{gate_is}
use Rattle.sg_journal.proofs.Ends.{closed_ends, closed_last}
use Rattle.sg_journal.proofs.States.{closed_has}
use Rattle.sg_journal.proofs.Written.{length_gate}
use Rattle.sg_journal.proofs.Moments.{weaker, on_ok_both}
use Rattle.sg_journal.proofs.journal.Journal.finish_rewrite.Goals as goal

pub returns-clause-exchanged : goal.returns-clause-exchanged
returns-clause-exchanged g c =
    let j = c.args.self.now in
    let sector : length c.batch.inside.gate.items ≡ j.sector =
    ap (λ (v : BatchValue). v.sector) c.batch.view_is ∙ c.requires.sector in
    let some : Prim.Native.Nat.◌<◌ 0 j.sector = omega (arith, sector, c.batch.invariant.least) in
    let gate : c.deref.result.now ≡ closed_gate j.sector =
    c.deref.ensures.value
    ∙ gate_is c.batch.inside.gate c.deref_mut.result.now c.write_gate.new.sector j.sector 0
    c.deref_mut.ensures.value c.write_gate.ensures sector some in
    on_ok_both c.close_and_exchange.result
    (λ is durable bs drafted s.
    let draft = g.D.Device.draft j.device in
    let file : g.D.Device.seen c.close_and_exchange.new.device ≡ draft ++ closed_gate j.sector =
    is ∙ ap (λ (l : List ℕ). draft ++ l) gate in
    closed_has g.D.Device.seen g.D.Device.may_leave _ drafted s.stands.valid refl some
    (closed_last j.sector j.drafted _ draft drafted s.drafts file s.length some) durable
    (omega (
      arith,
      ap length file,
      length-append draft (closed_gate j.sector),
      length_gate j.sector 0 some,
      s.length,
    )))
    c.close_and_exchange.ensures.exchanged c.close_and_exchange.ensures.durable

pub returns-clause-any_moment : goal.returns-clause-any_moment
returns-clause-any_moment g c bs drafted s =
    let j = c.args.self.now in
    let sector : length c.batch.inside.gate.items ≡ j.sector =
    ap (λ (v : BatchValue). v.sector) c.batch.view_is ∙ c.requires.sector in
    let some : Prim.Native.Nat.◌<◌ 0 j.sector = omega (arith, sector, c.batch.invariant.least) in
    let gate : c.deref.result.now ≡ closed_gate j.sector =
    c.deref.ensures.value
    ∙ gate_is c.batch.inside.gate c.deref_mut.result.now c.write_gate.new.sector j.sector 0
    c.deref_mut.ensures.value c.write_gate.ensures sector some in
    let draft = g.D.Device.draft j.device in
    weaker g.D.Device.moment g.D.Device.left_since j.device c.close_and_exchange.new.device _
    (λ f. (found f ≡ Ok bs) ⊎ (found f ≡ Ok drafted)) c.close_and_exchange.ensures.any_moment
    (λ f. ⊎_elim (λ was. inl (s.stands.crash f was))
    (λ new. inr (ap found (new ∙ ap (λ (l : List ℕ). draft ++ l) gate)
    ∙ closed_ends j.sector draft drafted s.drafts)))
