use Rattle.std.proofs.Common.{◌≡◌, ⊎_elim, ℕ, ◌+◌, ◌++◌, List, [], length, take, refl, sym, ◌∙◌, ap}
use Rattle.std.proofs.Common.{subst, arith, length-append}
use Rattle.std.proofs.lemmas.List.{length-take-le}
use Rattle.std.specs.Prelude.{Ok}
use Rattle.sg_journal.specs.BatchValue.{BatchValue}
use Rattle.sg_journal.specs.Journal.{found, IsGrown}
use Rattle.sg_journal.specs.Layout.{closed_gate}
use Rattle.sg_journal.specs.JournalState.{HasBatches, HasTail, IsDurable, IsTorn}
use Rattle.sg_journal.specs.declared.journal.Tail.TheVariants.{Closed}
use Rattle.sg_journal.proofs.Buffers.{gate_is}
use Rattle.sg_journal.proofs.Written.{length_gate}
use Rattle.sg_journal.proofs.Moments.{weaker, on_ok_both}
use Rattle.sg_journal.proofs.Ends.{repaired, cut_keeps, grown_keeps, within_file}
use Rattle.sg_journal.proofs.States.{closed_has}
use Rattle.sg_journal.proofs.journal.Journal.repair.Goals as goal

pub cut_and_close-requires-clause-durable : goal.cut_and_close-requires-clause-durable
cut_and_close-requires-clause-durable g c =
    let j = c.args.self.now in
    let s = c.requires.batches.2 in
    subst (λ t. IsDurable t (j.end + j.sector) (g.D.Device.seen j.device)
    (g.D.Device.may_leave j.device)) c.requires.torn s.durable

pub returns-clause-repaired : goal.returns-clause-repaired
returns-clause-repaired g c =
    let j = c.args.self.now in
    let sector : length c.batch.inside.gate.items ≡ j.sector =
    ap (λ (v : BatchValue). v.sector) c.batch.view_is ∙ c.requires.sector in
    let some : Prim.Native.Nat.◌<◌ 0 j.sector = omega (arith, sector, c.batch.invariant.least) in
    let gate : c.deref.result.now ≡ closed_gate j.sector =
    c.deref.ensures.value ∙ gate_is c.batch.inside.gate c.deref_mut.result.now
    c.write_gate.new.sector j.sector 0
    c.deref_mut.ensures.value c.write_gate.ensures sector some in
    on_ok_both c.cut_and_close.result
    (λ is durable bs ws s.
    let old = g.D.Device.seen j.device in
    let new = g.D.Device.seen c.cut_and_close.new.device in
    let torn : IsTorn j.sector j.end old bs × (ws ≡ []) =
    subst (λ t. HasTail t j.sector j.end old bs ws) c.requires.torn s.tail in
    let file : new ≡ take j.end old ++ closed_gate j.sector =
    is ∙ ap (λ (l : List ℕ). take j.end old ++ l) gate in
    let closed = repaired j.sector j.end old bs torn.0 some new file in
    let long : length new ≡ j.end + j.sector =
    omega (
      arith,
      ap length file,
      length-append (take j.end old) (closed_gate j.sector),
      length-take-le j.end old (within_file j.sector j.end old bs torn.0 some),
      length_gate j.sector 0 some,
    ) in
    subst (λ (l : List (List ℕ)). HasBatches g.D.Device.seen g.D.Device.may_leave
    (record j { device = c.cut_and_close.new.device; tail = Closed; length = j.end + j.sector }) bs l)
    (sym torn.1)
    (closed_has g.D.Device.seen g.D.Device.may_leave _ bs s.valid refl some closed durable
    (sym long)))
    c.cut_and_close.ensures.closed c.cut_and_close.ensures.durable

pub returns-clause-any_moment : goal.returns-clause-any_moment
returns-clause-any_moment g c bs ws s =
    let j = c.args.self.now in
    let sector : length c.batch.inside.gate.items ≡ j.sector =
    ap (λ (v : BatchValue). v.sector) c.batch.view_is ∙ c.requires.sector in
    let some : Prim.Native.Nat.◌<◌ 0 j.sector = omega (arith, sector, c.batch.invariant.least) in
    let gate : c.deref.result.now ≡ closed_gate j.sector =
    c.deref.ensures.value
    ∙ gate_is c.batch.inside.gate c.deref_mut.result.now c.write_gate.new.sector j.sector 0
    c.deref_mut.ensures.value c.write_gate.ensures sector some in
    let file = g.D.Device.seen j.device in
    let torn : IsTorn j.sector j.end file bs × (ws ≡ []) =
    subst (λ t. HasTail t j.sector j.end file bs ws) c.requires.torn s.tail in
    let size : length c.deref.result.now ≡ j.sector = ap length gate
    ∙ length_gate j.sector 0 some in
    weaker g.D.Device.moment g.D.Device.left_since j.device c.cut_and_close.new.device _
    (λ f. found f ≡ Ok bs) c.cut_and_close.ensures.any_moment
    (λ f. ⊎_elim (cut_keeps j.sector j.end file bs torn.0 some f)
    (λ grown. grown_keeps j.sector j.end file bs torn.0 some f
    (subst (λ (n : ℕ). IsGrown n (take j.end file) f) size grown)))
