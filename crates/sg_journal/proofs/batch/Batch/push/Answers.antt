use Rattle.std.proofs.Common.{◌≡◌, ◌≤◌, ◌+◌, ◌++◌, ℕ, List, length, take, drop, ◌∙◌, ap, arith}
use Rattle.std.proofs.Common.{length-take, length-drop}
use Rattle.std.proofs.lemmas.List.{with_items_is}
use Rattle.std.specs.Vec.{with_items}
use Rattle.sg_journal.specs.BatchValue.{BatchValue}
use Rattle.sg_journal.proofs.Buffers.{pushed, put_length}
use Rattle.sg_journal.proofs.batch.Batch.push.Goals as goal

pub returns : goal.returns
returns c =
    let b : List ℕ = c.self.inside.body.items in
    let x : List ℕ = c.args.bytes.now in
    let old = c.args.self.now in
    let len : ℕ = c.self.inside.len in
    let n : ℕ = length x in
    let records : take len (drop 16 b) ≡ old.records =
    ap (λ (v : BatchValue). v.records) c.self.view_is in
    let sector : length c.self.inside.gate.items ≡ old.sector =
    ap (λ (v : BatchValue). v.sector) c.self.view_is in
    let room = c.self.invariant.room in
    let fits : 16 + len + n ≤ length b =
    omega (
      arith,
      ap length records,
      length-take len (drop 16 b),
      length-drop 16 b,
      room,
      c.self.invariant.within,
    ) in
    let put : c.put.new.buffer ≡ take (16 + len) b ++ x ++ drop (16 + len + n) b =
    c.put.ensures
    ∙ ap (λ (l : List ℕ). take (16 + len) l ++ x ++ drop (16 + len + n) l)
    c.deref_mut.ensures.value in
    let same : length c.put.new.buffer ≡ c.self.inside.body.len =
    ap length put ∙ put_length (16 + len) b x (omega arith)
    ∙ omega (arith, c.self.inside.body.ok) in
    let all : take (len + n) (drop 16 (with_items c.self.inside.body c.put.new.buffer).items) ≡
    old.records ++ x =
    ap (λ (l : List ℕ). take (len + n) (drop 16 l))
    (with_items_is c.self.inside.body c.put.new.buffer same ∙ put)
    ∙ pushed len b x fits ∙ ap (λ (l : List ℕ). l ++ x) records in
    let as_batch : ℕ → List ℕ → BatchValue = λ s r. record { sector = s; records = r } in
    ap (as_batch (length c.self.inside.gate.items)) all
    ∙ ap (λ (s : ℕ). as_batch s (old.records ++ x)) sector
