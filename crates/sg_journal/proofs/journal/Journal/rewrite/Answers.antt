use Rattle.std.proofs.Common.{◌≡◌, ℕ, ◌+◌, ◌-◌, ◌<◌, ◌≤◌, List, [], ◌∷◌, ◌++◌, length, take, drop}
use Rattle.std.proofs.Common.{refl, sym, ◌∙◌, ap, subst, arith}
use Rattle.std.specs.Prelude.{Ok}
use Rattle.std.proofs.Common.{length-append}
use Rattle.sg_journal.specs.BatchValue.{BatchValue}
use Rattle.sg_journal.specs.Layout.{open_gate, closed_gate, body, body_size, max_batch}
use Rattle.sg_journal.specs.Journal.{found, IsHead}
use Rattle.sg_journal.proofs.Batches.{head_append}
use Rattle.sg_journal.proofs.Buffers.{gate_is, body_is_sealed, body_only, held_length}
use Rattle.sg_journal.proofs.Written.{front_written, length_gate, first_of_gate, length_body}
use Rattle.sg_journal.proofs.Written.{max_is}
use Rattle.sg_journal.proofs.Moments.{on_ok_weaker, weaker}
use Rattle.sg_journal.proofs.States.{same_has}
use Rattle.sg_journal.proofs.journal.Journal.rewrite.Goals as goal

pub returns-clause-added : goal.returns-clause-added
returns-clause-added g c =
    let j = c.args.self.now in
    let d = c.draft_batch.new.device in
    let b = c.args.batch.now in
    let sector : length c.batch.inside.gate.items ≡ j.sector =
    ap (λ (v : BatchValue). v.sector) c.batch.view_is ∙ c.requires.sector in
    let records : take c.batch.inside.len (drop 16 c.batch.inside.body.items) ≡ b.records =
    ap (λ (v : BatchValue). v.records) c.batch.view_is in
    let some : 0 < j.sector = omega (arith, sector, c.batch.invariant.least) in
    let long : length b.records ≡ c.batch.inside.len =
    held_length c.batch.inside.len c.batch.inside.body.items b.records records
    (omega (arith, c.batch.invariant.room, c.batch.invariant.within)) in
    let size : c.seal-size.result ≡ body_size j.sector (length b.records) + j.sector =
    c.seal-size.ensures.size ∙ ap (λ (n : ℕ). body_size j.sector n + j.sector) (sym long) in
    let within : length b.records ≤ max_batch =
    omega (arith, long, c.batch.invariant.within, max_is) in
    let same = c.draft_batch.ensures.seen in
    on_ok_weaker c.draft_batch.result
    (λ is bs drafted s.
    let gate : c.deref.result.now ≡ open_gate j.sector = c.deref.ensures.value
    ∙ gate_is c.batch.inside.gate c.deref_mut-2.result.now c.write_gate.new.sector j.sector 1
    c.deref_mut-2.ensures.value c.write_gate.ensures sector some in
    let image : take c.seal-size.result c.deref-2.result.now
    ≡ body j.sector b.records ++ closed_gate j.sector =
    ap (take c.seal-size.result) c.deref-2.ensures.value
    ∙ body_is_sealed c.batch.inside.body c.deref_mut.result.now c.seal-size.new.buffer b.records
    j.sector c.batch.inside.len c.seal-size.result c.deref_mut.ensures.value c.seal-size.auto.buffer
    c.seal-size.ensures.written records in
    let only = body_only c.deref-2.result.now b.records j.sector c.seal-size.result image size in
    let old = g.D.Device.draft j.device in
    let all : g.D.Device.draft d ≡ old ++ (open_gate j.sector ++ body j.sector b.records) =
    is
    ∙ ap (λ (l : List ℕ). old ++
    (l ++ take (c.seal-size.result - j.sector) c.deref-2.result.now)) gate
    ∙ ap (λ (l : List ℕ). old ++ (open_gate j.sector ++ l)) only in
    let front = front_written j.sector (open_gate j.sector) b.records (length_gate j.sector 1 some)
    within some (first_of_gate j.sector 1) in
    record {
      waiting = s.waiting;
      stands = same_has g.D.Device.seen g.D.Device.may_leave j _ bs s.waiting s.stands refl refl refl
          refl same c.draft_batch.ensures.crash;
      drafts =
          subst (λ (f : List ℕ). IsHead j.sector f (drafted ++ b.records ∷ [])) (sym all)
          (head_append j.sector old (open_gate j.sector ++ body j.sector b.records) drafted
          (b.records ∷ []) s.drafts front);
      length =
          omega (
            arith,
            ap length all,
            length-append old (open_gate j.sector ++ body j.sector b.records),
            length-append (open_gate j.sector) (body j.sector b.records),
            length_gate j.sector 1 some,
            length_body j.sector b.records,
            size,
            s.length,
          );
    })
    c.draft_batch.ensures.draft

pub returns-clause-any_moment : goal.returns-clause-any_moment
returns-clause-any_moment g c bs drafted s =
    let j = c.args.self.now in
    weaker g.D.Device.moment g.D.Device.left_since j.device c.draft_batch.new.device
    (g.D.Device.may_leave j.device) (λ f. found f ≡ Ok bs) c.draft_batch.ensures.any_moment
    s.stands.crash
