use Rattle.std.proofs.Common.{◌≡◌, ℕ, ◌+◌, ◌<◌, ◌≤◌, List, [], ◌∷◌, ◌++◌, length, take, drop}
use Rattle.std.proofs.Common.{refl, sym, ◌∙◌, ap, subst, arith}
use Rattle.std.specs.Prelude.{Ok}
use Rattle.std.proofs.lemmas.List.{length-take-le, take-take}
use Rattle.sg_journal.specs.BatchValue.{BatchValue}
use Rattle.sg_journal.specs.Journal.{found, HasFirst}
use Rattle.sg_journal.specs.Layout.{body, body_size, closed_gate, max_batch}
use Rattle.sg_journal.specs.JournalState.{HasTail, IsClosed, IsWaiting}
use Rattle.sg_journal.proofs.Buffers.{body_is_sealed, held_length}
use Rattle.sg_journal.proofs.Ends.{closed_long}
use Rattle.sg_journal.proofs.Moments.{on_ok_weaker, weaker}
use Rattle.sg_journal.proofs.States.{keeps_of, still_found, waiting_has}
use Rattle.sg_journal.proofs.Waits.{first_waits}
use Rattle.sg_journal.proofs.Written.{max_is}
use Rattle.sg_journal.proofs.journal.Journal.add_first.Goals as goal

pub returns-clause-waits : goal.returns-clause-waits
returns-clause-waits g c =
    let j = c.args.self.now in
    let b = c.args.batch.now in
    let file = g.D.Device.seen j.device in
    let sector : length c.batch.inside.gate.items ≡ j.sector =
    ap (λ (v : BatchValue). v.sector) c.batch.view_is ∙ c.requires.sector in
    let records : take c.batch.inside.len (drop 16 c.batch.inside.body.items) ≡ b.records =
    ap (λ (v : BatchValue). v.records) c.batch.view_is in
    let some : 0 < j.sector = omega (arith, sector, c.batch.invariant.least) in
    let long : length b.records ≡ c.batch.inside.len =
    held_length c.batch.inside.len c.batch.inside.body.items b.records records
    (omega (arith, c.batch.invariant.room, c.batch.invariant.within)) in
    let size : ℕ = body_size j.sector c.batch.inside.len + j.sector in
    let total : ℕ = c.seal_with_room-total.result in
    let image : List ℕ = take total c.deref.result.now in
    let within : length b.records ≤ max_batch =
    omega (arith, long, c.batch.invariant.within, max_is) in
    let sealed : take size image ≡ body j.sector b.records ++ closed_gate j.sector =
    take-take size total c.deref.result.now (omega (arith, c.seal_with_room-total.ensures.size))
    ∙ ap (take size) c.deref.ensures.value
    ∙ body_is_sealed c.batch.inside.body c.deref_mut.result.now
    c.seal_with_room-total.new.buffer b.records j.sector c.batch.inside.len size
    c.deref_mut.ensures.value c.seal_with_room-total.auto.buffer
    c.seal_with_room-total.ensures.written records in
    let image_size : length image ≡ total =
    length-take-le total c.deref.result.now
    (omega (
      arith,
      ap length c.deref.ensures.value,
      c.deref.ensures.len,
      c.seal_with_room-total.ensures.within,
    )) in
    let at : ℕ = j.end + j.sector in
    let new = g.D.Device.seen c.overwrite.new.device in
    let may_leave = g.D.Device.may_leave in
    on_ok_weaker c.overwrite.result
    (λ put bs ws s.
    let tail : IsClosed j.sector j.end file bs × (ws ≡ []) =
    subst (λ t. HasTail t j.sector j.end file bs ws) c.requires.closed s.tail in
    let written : ℕ = at + c.body_size-size.result in
    let place : at + body_size j.sector (length b.records) ≡ written =
    ap (λ (n : ℕ). at + body_size j.sector n) long
    ∙ ap (λ (n : ℕ). at + n) (sym c.body_size-size.ensures.value) in
    let waits : IsWaiting j.sector j.end written new bs (ws ++ b.records ∷ []) =
    subst (λ (n : ℕ). IsWaiting j.sector j.end n new bs (ws ++ b.records ∷ [])) place
    (subst (λ (l : List (List ℕ)). IsWaiting j.sector j.end
    (at + body_size j.sector (length b.records)) new bs (l ++ b.records ∷ [])) (sym tail.1)
    (first_waits j.sector j.end size file image b.records new some within sealed bs tail.0 put)) in
    waiting_has g.D.Device.seen may_leave _ file image (may_leave j.device) at written bs
    (ws ++ b.records ∷ []) s.valid refl some waits
    (keeps_of j.tail at file (may_leave j.device) s.durable) (omega arith)
    (closed_long j.sector j.end file bs tail.0) put c.overwrite.ensures.crash
    (omega (arith, c.max-self.ensures, image_size, s.length)))
    c.overwrite.ensures.put

pub returns-clause-any_moment : goal.returns-clause-any_moment
returns-clause-any_moment g c bs ws s =
    let j = c.args.self.now in
    let file = g.D.Device.seen j.device in
    let sector : length c.batch.inside.gate.items ≡ j.sector =
    ap (λ (v : BatchValue). v.sector) c.batch.view_is ∙ c.requires.sector in
    let some : 0 < j.sector = omega (arith, sector, c.batch.invariant.least) in
    let at : ℕ = j.end + j.sector in
    let may_leave = g.D.Device.may_leave in
    let tail : IsClosed j.sector j.end file bs × (ws ≡ []) =
    subst (λ t. HasTail t j.sector j.end file bs ws) c.requires.closed s.tail in
    weaker g.D.Device.moment g.D.Device.left_since j.device c.overwrite.new.device
    (HasFirst at (may_leave j.device)) (λ f. found f ≡ Ok bs) c.overwrite.ensures.any_moment
    (still_found j.sector j.end at file bs (may_leave j.device) tail.0 some
    (keeps_of j.tail at file (may_leave j.device) s.durable) (omega arith))
