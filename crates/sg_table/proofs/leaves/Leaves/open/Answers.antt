use Rattle.std.proofs.Common.{◌≤◌, [], length, ap, sym, ◌∙◌, arith}
use Rattle.std.proofs.lemmas.List.Edits.{length-insert}
use Rattle.std.proofs.lemmas.List.Elements.{All-nil}
use Rattle.std.specs.Prelude.{insert}
use Rattle.sg_table.specs.LeafList.{LeafRow}
use Rattle.sg_table.specs.Leaves.{FitsLeaf, LeafTable}
use Rattle.sg_table.specs.Records.{FitCounts}
use Rattle.sg_table.proofs.DataLemmas.{data-insert}
use Rattle.sg_table.proofs.LeafSearchLemmas.{all-insert, firsts-insert}
use Rattle.sg_table.proofs.LeavesLemmas.{directory-insert, same-table}
use Rattle.sg_table.proofs.leaves.Leaves.open.Goals as goal

pub invariant_of-self : goal.invariant_of-self
invariant_of-self c =
    let leaves = c.self.inside.leaves.leaves in
    let k = c.args.leaf in
    let opened = ap (λ (l : LeafRow). l.leaves) c.open.ensures in
    let capacity = ap (λ (l : LeafRow). l.capacity) c.open.ensures in
    let room = ap (λ (l : LeafTable). l.capacity) c.self.view_is in
    let count = ap (λ (l : LeafTable). length l.leaves) c.self.view_is in
    let le : k ≤ length leaves = omega (arith, count, c.requires.leaf) in
    let is = directory-insert leaves c.self.inside.starts.items k c.index-start.result.now _
    c.self.invariant.0 le c.index-start.ensures
    (rw (sym c.is_ok.ensures.value ∙ c.if-prove.false) at c.insert-inserted.ensures.items) in (
      rw opened is,
      omega (arith, ap length opened, length-insert leaves k [] le, capacity, room, count, c.requires.room),
      omega (arith, capacity, c.self.invariant.2, c.insert-inserted.ensures.capacity),
      omega (arith, capacity, c.self.invariant.3),
      rw opened (all-insert FitsLeaf leaves k [] le (omega arith) c.self.invariant.4),
      (rw (sym c.is_ok-2.ensures.value ∙ c.if-prove-2.false) at c.insert-inserted-2.ensures.items)
          ∙ ap (λ xs. insert xs k 0) c.self.invariant.5 ∙ firsts-insert leaves _ k opened,
      omega (arith, capacity, c.self.invariant.6, c.insert-inserted-2.ensures.capacity),
      λ lt. absurd (omega arith),
      rw opened (all-insert FitCounts leaves k [] le (All-nil _) c.self.invariant.8),
      rw opened (c.self.invariant.9 ∙ sym (data-insert leaves k le)),
    )

pub returns : goal.returns
returns c =
    same-table _ _ _ _ _ _
    (ap (λ (l : LeafRow). l.leaves) c.open.ensures
    ∙ ap (λ (l : LeafTable). insert l.leaves c.args.leaf []) c.self.view_is)
    (ap (λ (l : LeafRow). l.capacity) c.open.ensures ∙ ap (λ (l : LeafTable). l.capacity) c.self.view_is)
    (ap (λ (l : LeafTable). l.moved) c.self.view_is)
