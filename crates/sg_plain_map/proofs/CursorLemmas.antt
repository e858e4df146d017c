-- The record at an address, from the cursor.
use Rattle.std.proofs.Common.{◌≡◌, ◌≢◌, ℕ, ◌+◌, ◌<◌, List, length, arith, refl, sym, ap, ◌∙◌}
use Rattle.std.proofs.Common.{Option, Some, None, cond, Bool, true, false, eq-eqb, true≢false}
use Rattle.std.proofs.lemmas.Bool.{eqb-true}
use Rattle.std.specs.Prelude.{slice_index_or, is_some}
use Rattle.sg_table.specs.Records.{start_of, IsSorted, IsNext, ahead, same_kind}
use Rattle.sg_plain_map.specs.Editing.{IsAt}
use Rattle.sg_table.specs.Records.{run_at}
use Rattle.sg_plain_map.specs.Status.{of_kind}
use Rattle.sg_table.specs.declared.run.Kind.{Kind}
use Rattle.sg_table.specs.declared.run.Run.{Run}
use Rattle.sg_table.specs.declared.cursor.Cursor.{Cursor}
use Rattle.sg_table.proofs.RecordLemmas.{start_of-read, none_at, index-unmapped}
use Rattle.sg_table.proofs.RecordLemmas.{alike, own_kind, picked, dropped}

-- the record that was looked for is at the index
pub found : (rs : List Run) (next : Option Run) (p lba : ℕ) (run : Run) → IsNext rs p next
    → run_at next lba ≡ Some run → (p < length rs) × (slice_index_or rs p run ≡ run)
    × (run.start ≡ lba)
found rs None p lba run n e = let wrong = e in cc
found rs (Some r) p lba run n e =
    let both = picked _ r run e in
    let at = rw both.1 at n in
    (at.0, at.1, ap (λ (x : Run). x.start) (sym both.1) ∙ eqb-true r.start lba both.0)

-- there is no record, or the record of another address
pub missed : (rs : List Run) (next : Option Run) (p lba : ℕ) → IsNext rs p next → run_at next lba ≡
    None → p < length rs → start_of rs p ≢ lba
missed rs None p lba n e h same = absurd (omega arith)
missed rs (Some r) p lba n e h same =
    let off = dropped _ r e in
    let on = eq-eqb r.start lba (start_of-read rs p r n.0 (sym n.1) ∙ same) in
    cc

pub ahead-found : (next : Option Run) (lba : ℕ) (run : Run) → run_at next lba ≡ Some run → ahead next ≡ 1
ahead-found None lba run e = let wrong = e in cc
ahead-found (Some r) lba run e = refl

-- then no record has the address
pub none-found : (rs : List Run) (cursor : Cursor) (lba : ℕ) → IsSorted rs → IsAt rs cursor lba
    → run_at cursor.next lba ≡ None → (j : ℕ) → j < length rs → start_of rs j ≢ lba
none-found rs cursor lba sorted at e =
    none_at rs cursor.index lba sorted at.index (missed rs cursor.next cursor.index lba at.next e)

pub stays-at : (rs : List Run) (cursor : Cursor) (lba : ℕ) → IsSorted rs → IsAt rs cursor lba
    → run_at cursor.next lba ≡ None → IsAt rs cursor (lba + 1)
stays-at rs cursor lba sorted at e = record {
  index = index-unmapped rs cursor.index lba sorted at.index
      (missed rs cursor.next cursor.index lba at.next e);
  next = at.next;
}

-- the record of a kind
pub of_kind-found : (kind : Kind) (o : Option Run) (run : Run) → of_kind kind o ≡ Some run
    → (o ≡ Some run) × (run.kind ≡ kind)
of_kind-found kind None run e = let wrong = e in cc
of_kind-found kind (Some r) run e =
    let both = picked (same_kind r.kind kind) r run e in
    (ap Some both.1, ap (λ (x : Run). x.kind) (sym both.1) ∙ alike r.kind kind both.0)

pub of_kind-missed : (kind : Kind) (o : Option Run) (run : Run) → of_kind kind o ≡ None
    → o ≡ Some run → run.kind ≢ kind
of_kind-missed kind o run e is same =
    let off = dropped (same_kind run.kind kind) run (ap (of_kind kind) (sym is) ∙ e) in
    true≢false (sym (ap (λ k. same_kind k kind) same ∙ own_kind kind) ∙ off)

is_there : (b : Bool) (r : Run) → is_some (cond b (Some r) None) ≡ true → b ≡ true
is_there true r e = refl
is_there false r e = e

pub of_kind-some : (kind : Kind) (o : Option Run) → is_some (of_kind kind o) ≡ true
    → (run : Run) × (o ≡ Some run) × (run.kind ≡ kind)
of_kind-some kind None e = absurd (true≢false (sym e))
of_kind-some kind (Some r) e = (r, refl, alike r.kind kind (is_there (same_kind r.kind kind) r e))
