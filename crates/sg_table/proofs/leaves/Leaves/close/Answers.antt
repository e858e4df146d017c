use Rattle.std.proofs.Common.{◌<◌, length, drop, ap, refl, ◌∙◌, arith}
use Rattle.std.proofs.lemmas.List.{take_at}
use Rattle.std.proofs.lemmas.List.Edits.{length-remove}
use Rattle.std.specs.Prelude.{remove}
use Rattle.sg_table.specs.LeafList.{LeafRow}
use Rattle.sg_table.specs.Leaves.{FitsLeaf, LeafTable, joined}
use Rattle.sg_table.specs.Records.{FitCounts, data_in}
use Rattle.sg_table.proofs.DataLemmas.{data-remove}
use Rattle.sg_table.proofs.LeafSearchLemmas.{all-remove, firsts-remove}
use Rattle.sg_table.proofs.LeavesLemmas.{directory-behind, directory-remove, same-table}
use Rattle.sg_table.proofs.leaves.Leaves.close.Goals as goal

pub overflow_sub-self : goal.overflow_sub-self
overflow_sub-self c =
    let leaves = c.self.inside.leaves.leaves in
    let count = ap (λ (l : LeafTable). length l.leaves) c.self.view_is in
    let within : c.args.leaf < length leaves = omega (arith, count, c.requires.leaf) in
    let removed = c.data_count.ensures.value
    ∙ ap data_in (c.records.ensures.value ∙ c.leaf-2.ensures) in
    omega (arith, data-remove leaves c.args.leaf within, c.self.invariant.9, removed)

pub shift-requires-clause-less : goal.shift-requires-clause-less
shift-requires-clause-less c = λ j d lt.
    let leaves = c.self.inside.leaves.leaves in
    let same = ap (λ (l : LeafTable). l.leaves) c.self.view_is in
    let lt' = rw c.deref_mut.ensures.value at lt in
    let bounds = directory-behind leaves c.self.inside.starts.items leaves c.args.leaf c.self.invariant.0
    refl (omega (arith, c.requires.leaf, ap length same)) j d lt' in
    rw c.deref_mut.ensures.value (omega (
      arith,
      bounds.0,
      c.len-count.ensures.value,
      ap length c.leaf.ensures,
    ))

pub shift-requires-clause-more : goal.shift-requires-clause-more
shift-requires-clause-more c = λ j d lt.
    let leaves = c.self.inside.leaves.leaves in
    let same = ap (λ (l : LeafTable). l.leaves) c.self.view_is in
    let lt' = rw c.deref_mut.ensures.value at lt in
    let bounds = directory-behind leaves c.self.inside.starts.items leaves c.args.leaf c.self.invariant.0
    refl (omega (arith, c.requires.leaf, ap length same)) j d lt' in
    rw c.deref_mut.ensures.value (omega (
      arith,
      bounds.1,
      ap (λ l. length (joined l)) same,
      c.requires.count,
    ))

pub invariant_of-self : goal.invariant_of-self
invariant_of-self c =
    let leaves = c.self.inside.leaves.leaves in
    let starts = c.self.inside.starts.items in
    let k = c.args.leaf in
    let closed = ap (λ (l : LeafRow). l.leaves) c.close.ensures in
    let capacity = ap (λ (l : LeafRow). l.capacity) c.close.ensures in
    let count = ap (λ (l : LeafTable). length l.leaves) c.self.view_is in
    let within : k < length leaves = omega (arith, count, c.requires.leaf) in
    let removed = c.data_count.ensures.value
    ∙ ap data_in (c.records.ensures.value ∙ c.leaf-2.ensures) in
    let back = take_at c.shift.new.starts (drop (length c.shift.new.starts) starts) c.self.inside.starts.len
    (omega (arith, c.self.inside.starts.ok.0, c.shift.auto.starts, c.deref_mut.ensures.len)) in
    let shifted = rw c.deref_mut.ensures.value at c.shift.ensures in
    let is = directory-remove leaves starts k c.len-count.result _ c.self.invariant.0 within
    (omega (arith, count, c.requires.others)) (c.len-count.ensures.value ∙ ap length c.leaf.ensures)
    (c.remove.ensures.items ∙ ap (λ s. remove s k) (back ∙ shifted)) in (
      rw closed is,
      omega (arith, ap length closed, length-remove leaves k within, capacity, c.self.invariant.1),
      omega (arith, capacity, c.self.invariant.2, c.remove.ensures.capacity),
      omega (arith, capacity, c.self.invariant.3),
      rw closed (all-remove FitsLeaf leaves k c.self.invariant.4),
      c.remove-2.ensures.items ∙ ap (λ xs. remove xs k) c.self.invariant.5 ∙ firsts-remove leaves _ k closed,
      omega (arith, capacity, c.self.invariant.6, c.remove-2.ensures.capacity),
      λ lt. absurd (omega arith),
      rw closed (all-remove FitCounts leaves k c.self.invariant.8),
      rw closed (omega (arith, data-remove leaves k within, c.self.invariant.9, removed)),
    )

pub returns : goal.returns
returns c =
    same-table _ _ _ _ _ _
    (ap (λ (l : LeafRow). l.leaves) c.close.ensures
    ∙ ap (λ (l : LeafTable). remove l.leaves c.args.leaf) c.self.view_is)
    (ap (λ (l : LeafRow). l.capacity) c.close.ensures ∙ ap (λ (l : LeafTable). l.capacity) c.self.view_is)
    (ap (λ (l : LeafTable). l.moved) c.self.view_is)
