use Rattle.std.proofs.Common.{◌≡◌, ℕ, ◌+◌, ◌<◌, ◌≤◌, List, [], ◌∷◌, ◌++◌, length, take, drop}
use Rattle.std.proofs.Common.{refl, sym, ◌∙◌, ap, subst, arith, length-append}
use Rattle.std.specs.Prelude.{Ok}
use Rattle.std.proofs.lemmas.List.{length-take-le, take-take}
use Rattle.sg_journal.specs.BatchValue.{BatchValue}
use Rattle.sg_journal.specs.Device.{Holds}
use Rattle.sg_journal.specs.Journal.{found, HasFirst}
use Rattle.sg_journal.specs.Layout.{body, body_size, closed_gate, open_gate, max_batch}
use Rattle.sg_journal.specs.JournalState.{HasTail, IsWaiting}
use Rattle.sg_journal.proofs.Buffers.{body_is_sealed, gate_is, held_length}
use Rattle.sg_journal.proofs.Moments.{on_ok_weaker, weaker}
use Rattle.sg_journal.proofs.States.{keeps_of, still_found, waiting_has}
use Rattle.sg_journal.proofs.Waits.{next_waits, waiting_fits}
use Rattle.sg_journal.proofs.Written.{first_of_gate, length_gate, max_is}
use Rattle.sg_journal.proofs.journal.Journal.add_next.Goals as goal

pub overflow_add-at : goal.overflow_add-at
overflow_add-at g c =
    let s = c.requires.batches.2 in
    let j = c.args.self.now in
    let sector : length c.batch.inside.gate.items ≡ j.sector =
    ap (λ (v : BatchValue). v.sector) c.batch.view_is ∙ c.requires.sector in
    let some : 0 < j.sector = omega (arith, sector, c.batch.invariant.least) in
    let h = subst (λ t. HasTail t j.sector j.end (g.D.Device.seen j.device) c.requires.batches.0
    c.requires.batches.1) c.requires.tail s.tail in
    let fits = waiting_fits j.sector j.end c.args.written (g.D.Device.seen j.device)
    c.requires.batches.0 c.requires.batches.1 h some in
    omega (arith, fits, s.length, c.requires.length)

pub overflow_add-at-2 : goal.overflow_add-at-2
overflow_add-at-2 g c =
    let s = c.requires.batches.2 in
    let j = c.args.self.now in
    let sector : length c.batch.inside.gate.items ≡ j.sector =
    ap (λ (v : BatchValue). v.sector) c.batch.view_is ∙ c.requires.sector in
    let some : 0 < j.sector = omega (arith, sector, c.batch.invariant.least) in
    let h = subst (λ t. HasTail t j.sector j.end (g.D.Device.seen j.device) c.requires.batches.0
    c.requires.batches.1) c.requires.tail s.tail in
    let fits = waiting_fits j.sector j.end c.args.written (g.D.Device.seen j.device)
    c.requires.batches.0 c.requires.batches.1 h some in
    omega (
      arith,
      fits,
      s.length,
      c.requires.length,
      c.seal_with_room-total.ensures.within,
      c.seal_with_room-total.auto.buffer,
      ap length c.deref_mut.ensures.value,
      c.batch.invariant.room,
      c.batch.invariant.most,
    )

pub write_gate_and_body-requires-clause-at : goal.write_gate_and_body-requires-clause-at
write_gate_and_body-requires-clause-at g c =
    let s = c.requires.batches.2 in
    let j = c.args.self.now in
    let sector : length c.batch.inside.gate.items ≡ j.sector =
    ap (λ (v : BatchValue). v.sector) c.batch.view_is ∙ c.requires.sector in
    let some : 0 < j.sector = omega (arith, sector, c.batch.invariant.least) in
    let gate : c.deref.result.now ≡ open_gate j.sector = c.deref.ensures.value
    ∙ gate_is c.batch.inside.gate c.deref_mut-2.result.now c.write_gate.new.sector j.sector 1
    c.deref_mut-2.ensures.value c.write_gate.ensures sector some in
    let h = subst (λ t. HasTail t j.sector j.end (g.D.Device.seen j.device) c.requires.batches.0
    c.requires.batches.1) c.requires.tail s.tail in
    let fits = waiting_fits j.sector j.end c.args.written (g.D.Device.seen j.device)
    c.requires.batches.0 c.requires.batches.1 h some in
    omega (arith, fits, ap length gate, length_gate j.sector 1 some)

pub returns-clause-waits : goal.returns-clause-waits
returns-clause-waits g c =
    let j = c.args.self.now in
    let b = c.args.batch.now in
    let file = g.D.Device.seen j.device in
    let sector : length c.batch.inside.gate.items ≡ j.sector =
    ap (λ (v : BatchValue). v.sector) c.batch.view_is ∙ c.requires.sector in
    let records : take c.batch.inside.len (drop 16 c.batch.inside.body.items) ≡ b.records =
    ap (λ (v : BatchValue). v.records) c.batch.view_is in
    let some : 0 < j.sector = omega (arith, sector, c.batch.invariant.least) in
    let long : length b.records ≡ c.batch.inside.len =
    held_length c.batch.inside.len c.batch.inside.body.items b.records records
    (omega (arith, c.batch.invariant.room, c.batch.invariant.within)) in
    let size : ℕ = body_size j.sector c.batch.inside.len + j.sector in
    let total : ℕ = c.seal_with_room-total.result in
    let image : List ℕ = take total c.deref-2.result.now in
    let within : length b.records ≤ max_batch =
    omega (arith, long, c.batch.invariant.within, max_is) in
    let sealed : take size image ≡ body j.sector b.records ++ closed_gate j.sector =
    take-take size total c.deref-2.result.now (omega (arith, c.seal_with_room-total.ensures.size))
    ∙ ap (take size) c.deref-2.ensures.value
    ∙ body_is_sealed c.batch.inside.body c.deref_mut.result.now
    c.seal_with_room-total.new.buffer b.records j.sector c.batch.inside.len size
    c.deref_mut.ensures.value c.seal_with_room-total.auto.buffer
    c.seal_with_room-total.ensures.written records in
    let image_size : length image ≡ total =
    length-take-le total c.deref-2.result.now
    (omega (
      arith,
      ap length c.deref-2.ensures.value,
      c.deref-2.ensures.len,
      c.seal_with_room-total.ensures.within,
    )) in
    let gate : c.deref.result.now ≡ open_gate j.sector = c.deref.ensures.value
    ∙ gate_is c.batch.inside.gate c.deref_mut-2.result.now c.write_gate.new.sector j.sector 1
    c.deref_mut-2.ensures.value c.write_gate.ensures sector some in
    let gate_size = length_gate j.sector 1 some in
    let at : ℕ = c.args.written in
    let new = g.D.Device.seen c.write_gate_and_body.new.device in
    let may_leave = g.D.Device.may_leave in
    on_ok_weaker c.write_gate_and_body.result
    (λ is bs ws s.
    let h = subst (λ t. HasTail t j.sector j.end file bs ws) c.requires.tail s.tail in
    let put : Holds file at (open_gate j.sector ++ image) new =
    subst (λ (l : List ℕ). Holds file at (l ++ image) new) gate is in
    let written : ℕ = at + j.sector + c.body_size-size.result in
    let place : at + j.sector + body_size j.sector (length b.records) ≡ written =
    ap (λ (n : ℕ). at + j.sector + body_size j.sector n) long
    ∙ ap (λ (n : ℕ). at + j.sector + n) (sym c.body_size-size.ensures.value) in
    let waits : IsWaiting j.sector j.end written new bs (ws ++ b.records ∷ []) =
    subst (λ (n : ℕ). IsWaiting j.sector j.end n new bs (ws ++ b.records ∷ [])) place
    (next_waits j.sector j.end size file image b.records new some within sealed at
    (open_gate j.sector) bs ws h gate_size (first_of_gate j.sector 1) put) in
    waiting_has g.D.Device.seen may_leave _ file (open_gate j.sector ++ image)
    (may_leave j.device) at written bs (ws ++ b.records ∷ []) s.valid refl some waits
    (keeps_of j.tail (j.end + j.sector) file (may_leave j.device) s.durable) h.behind
    (omega (arith, waiting_fits j.sector j.end at file bs ws h some)) put c.write_gate_and_body.ensures.crash
    (omega (
      arith,
      c.max-self.ensures,
      image_size,
      s.length,
      length-append (open_gate j.sector) image,
      gate_size,
    )))
    c.write_gate_and_body.ensures.put

pub returns-clause-any_moment : goal.returns-clause-any_moment
returns-clause-any_moment g c bs ws s =
    let j = c.args.self.now in
    let file = g.D.Device.seen j.device in
    let sector : length c.batch.inside.gate.items ≡ j.sector =
    ap (λ (v : BatchValue). v.sector) c.batch.view_is ∙ c.requires.sector in
    let some : 0 < j.sector = omega (arith, sector, c.batch.invariant.least) in
    let at : ℕ = c.args.written in
    let may_leave = g.D.Device.may_leave in
    let h = subst (λ t. HasTail t j.sector j.end file bs ws) c.requires.tail s.tail in
    weaker g.D.Device.moment g.D.Device.left_since j.device c.write_gate_and_body.new.device
    (HasFirst at (may_leave j.device)) (λ f. found f ≡ Ok bs)
    c.write_gate_and_body.ensures.any_moment
    (still_found j.sector j.end at file bs (may_leave j.device) h.closed some
    (keeps_of j.tail (j.end + j.sector) file (may_leave j.device) s.durable) h.behind)

pub returns-clause-length : goal.returns-clause-length
returns-clause-length g c =
    let s = c.requires.batches.2 in
    let j = c.args.self.now in
    let b = c.args.batch.now in
    let file = g.D.Device.seen j.device in
    let sector : length c.batch.inside.gate.items ≡ j.sector =
    ap (λ (v : BatchValue). v.sector) c.batch.view_is ∙ c.requires.sector in
    let some : 0 < j.sector = omega (arith, sector, c.batch.invariant.least) in
    let records : take c.batch.inside.len (drop 16 c.batch.inside.body.items) ≡ b.records =
    ap (λ (v : BatchValue). v.records) c.batch.view_is in
    let long : length b.records ≡ c.batch.inside.len =
    held_length c.batch.inside.len c.batch.inside.body.items b.records records
    (omega (arith, c.batch.invariant.room, c.batch.invariant.within)) in
    let h = subst (λ t. HasTail t j.sector j.end file c.requires.batches.0 c.requires.batches.1)
    c.requires.tail s.tail in
    omega (
      arith,
      waiting_fits j.sector j.end c.args.written file c.requires.batches.0 c.requires.batches.1 h
          some,
      s.length,
      c.max-self.ensures,
      c.seal_with_room-total.ensures.size,
      ap (body_size j.sector) long,
      c.least-least.ensures,
    )
