use Rattle.std.proofs.Common.{◌≡◌, ◌<◌, List, [], length, set, ap, refl, ◌∙◌, arith}
use Rattle.std.proofs.Common.{length-set}
use Rattle.std.proofs.lemmas.List.{get_or-set_same, take_at}
use Rattle.std.proofs.lemmas.List.Elements.{All-set}
use Rattle.std.specs.List.{splice}
use Rattle.sg_table.specs.LeafList.{LeafRow}
use Rattle.sg_table.specs.Leaves.{FitsLeaf, LeafTable, joined, leaf_at}
use Rattle.sg_table.specs.Records.{FitCounts, FitsCount, start_of}
use Rattle.sg_table.specs.declared.run.Run.{Run}
use Rattle.sg_table.proofs.DataLemmas.{data-edit, leaves-fit}
use Rattle.sg_table.proofs.SpliceLemmas.{all-splice}
use Rattle.sg_table.proofs.LeafSearchLemmas.{firsts-set}
use Rattle.sg_table.proofs.LeavesLemmas.{count-set, directory-behind, directory-set}
use Rattle.sg_table.proofs.LeavesLemmas.{length-splice, same-table}
use Rattle.sg_table.proofs.leaves.Leaves.edit.Goals as goal

pub overflow_sub-self : goal.overflow_sub-self
overflow_sub-self c =
    let leaves = c.self.inside.leaves.leaves in
    let k = c.args.leaf in
    let same = ap (λ (l : LeafTable). l.leaves) c.self.view_is in
    let within : k < length leaves = omega (arith, c.requires.leaf, ap length same) in
    let removed = rw (c.records.ensures.value, c.leaf-2.ensures) at c.data_count-removed.ensures.value in
    let left = data-edit leaves k [] c.args.from c.args.to within c.requires.range.0 in
    omega (arith, removed, left, c.self.invariant.9)

pub overflow_add-self : goal.overflow_add-self
overflow_add-self c =
    let leaves = c.self.inside.leaves.leaves in
    let k = c.args.leaf in
    let same = ap (λ (l : LeafTable). l.leaves) c.self.view_is in
    let within : k < length leaves = omega (arith, c.requires.leaf, ap length same) in
    let new : List Run = splice (leaf_at leaves k) c.args.from c.args.to c.args.runs.now in
    let old = ap (λ (l : LeafTable). length (leaf_at l.leaves k)) c.self.view_is in
    let size = length-splice (leaf_at leaves k) c.args.from c.args.to c.args.runs.now c.requires.range.0
    (omega (arith, c.requires.range.1, old)) in
    let fit = leaves-fit (set leaves k new) (All-set FitCounts leaves k new
    (all-splice FitsCount (leaf_at leaves k) c.args.runs.now c.args.from c.args.to
    (c.self.invariant.8 k [] within) c.data_count.ensures.short) c.self.invariant.8) in
    let removed = rw (c.records.ensures.value, c.leaf-2.ensures) at c.data_count-removed.ensures.value in
    record {
      fits = omega (
        arith,
        c.requires.count,
        c.requires.range.0,
        c.requires.range.1,
        ap (λ (l : LeafTable). length (joined l.leaves)) c.self.view_is,
        old,
        size,
        count-set leaves k new within,
        fit,
        removed,
        data-edit leaves k c.args.runs.now c.args.from c.args.to within c.requires.range.0,
        c.self.invariant.9,
        c.data_count.ensures.value,
      );
    }

pub shift-requires-clause-less : goal.shift-requires-clause-less
shift-requires-clause-less c = λ j d lt.
    let leaves = c.self.inside.leaves.leaves in
    let same = ap (λ (l : LeafTable). l.leaves) c.self.view_is in
    let lt' = rw c.deref_mut.ensures.value at lt in
    let bounds = directory-behind leaves c.self.inside.starts.items leaves c.args.leaf c.self.invariant.0
    refl (omega (arith, c.requires.leaf, ap length same)) j d lt' in
    rw c.deref_mut.ensures.value (omega (
      arith,
      bounds.0,
      c.len-before.ensures.value,
      ap length c.leaf.ensures,
    ))

pub shift-requires-clause-more : goal.shift-requires-clause-more
shift-requires-clause-more c = λ j d lt.
    let leaves = c.self.inside.leaves.leaves in
    let k = c.args.leaf in
    let same = ap (λ (l : LeafTable). l.leaves) c.self.view_is in
    let within : k < length leaves = omega (arith, c.requires.leaf, ap length same) in
    let new : List Run = splice (leaf_at leaves k) c.args.from c.args.to c.args.runs.now in
    let old = ap (λ (l : LeafTable). length (leaf_at l.leaves k)) c.self.view_is in
    let size = length-splice (leaf_at leaves k) c.args.from c.args.to c.args.runs.now c.requires.range.0
    (omega (arith, c.requires.range.1, old)) in
    let after = c.leaf-3.ensures ∙ ap (λ (l : LeafRow). leaf_at l.leaves k) c.splice.ensures
    ∙ get_or-set_same leaves k new [] within in
    let lt' = rw c.deref_mut.ensures.value at lt in
    let bounds = directory-behind leaves c.self.inside.starts.items leaves k c.self.invariant.0 refl within
    j d lt' in
    rw c.deref_mut.ensures.value (omega (
      arith,
      bounds.0,
      bounds.1,
      c.len-before.ensures.value,
      ap length c.leaf.ensures,
      c.len-after.ensures.value,
      ap length after,
      size,
      ap (λ (l : LeafTable). length (joined l.leaves)) c.self.view_is,
      c.requires.count,
      c.requires.range.1,
      old,
    ))

pub invariant_of-self : goal.invariant_of-self
invariant_of-self c =
    let leaves = c.self.inside.leaves.leaves in
    let starts = c.self.inside.starts.items in
    let k = c.args.leaf in
    let same = ap (λ (l : LeafTable). l.leaves) c.self.view_is in
    let within : k < length leaves = omega (arith, c.requires.leaf, ap length same) in
    let new : List Run = splice (leaf_at leaves k) c.args.from c.args.to c.args.runs.now in
    let spliced : c.splice.new.self.leaves ≡ set leaves k new =
    ap (λ (l : LeafRow). l.leaves) c.splice.ensures in
    let capacity = ap (λ (l : LeafRow). l.capacity) c.splice.ensures in
    let after = c.leaf-3.ensures ∙ ap (λ l. leaf_at l k) spliced
    ∙ get_or-set_same leaves k new [] within in
    let first = c.leaf-4.ensures ∙ ap (λ l. leaf_at l k) spliced ∙ get_or-set_same leaves k new [] within in
    let old = ap (λ (l : LeafTable). length (leaf_at l.leaves k)) c.self.view_is in
    let size = length-splice (leaf_at leaves k) c.args.from c.args.to c.args.runs.now c.requires.range.0
    (omega (arith, c.requires.range.1, old)) in
    let back = take_at c.shift.new.starts _ c.self.inside.starts.len
    (omega (arith, c.self.inside.starts.ok.0, c.shift.auto.starts, c.deref_mut.ensures.len)) in
    let shifted = rw c.deref_mut.ensures.value at c.shift.ensures in
    let removed = rw (c.records.ensures.value, c.leaf-2.ensures) at c.data_count-removed.ensures.value in
    let edited = data-edit leaves k c.args.runs.now c.args.from c.args.to within c.requires.range.0 in
    let edited-less = data-edit leaves k [] c.args.from c.args.to within c.requires.range.0 in
    let is = directory-set leaves starts k new c.len-before.result c.len-after.result _ c.self.invariant.0
    within (c.len-before.ensures.value ∙ ap length c.leaf.ensures)
    (c.len-after.ensures.value ∙ ap length after) (back ∙ shifted) in (
      rw spliced is,
      omega (arith, ap length spliced, length-set leaves k new, capacity, c.self.invariant.1),
      omega (arith, capacity, c.self.invariant.2),
      omega (arith, capacity, c.self.invariant.3),
      rw spliced (All-set FitsLeaf leaves k new (omega (arith, size, old, c.requires)) c.self.invariant.4),
      ap (λ xs. set xs k c.start.result) c.self.invariant.5
          ∙ firsts-set leaves _ k new _ spliced (c.start.ensures ∙ ap (λ leaf. start_of leaf 0) first),
      omega (arith, capacity, c.self.invariant.6),
      λ lt. absurd (omega arith),
      rw spliced (All-set FitCounts leaves k new (all-splice FitsCount (leaf_at leaves k) c.args.runs.now
          c.args.from c.args.to (c.self.invariant.8 k [] within) c.data_count.ensures.short)
          c.self.invariant.8),
      rw spliced (omega (
        arith,
        removed,
        edited,
        edited-less,
        c.self.invariant.9,
        c.data_count.ensures.value,
      )),
    )

pub returns : goal.returns
returns c =
    let leaves = c.self.inside.leaves.leaves in
    let k = c.args.leaf in
    let same = ap (λ (l : LeafTable). l.leaves) c.self.view_is in
    let within : k < length leaves = omega (arith, c.requires.leaf, ap length same) in
    let new : List Run = splice (leaf_at leaves k) c.args.from c.args.to c.args.runs.now in
    let old = ap (λ (l : LeafTable). length (leaf_at l.leaves k)) c.self.view_is in
    let size = length-splice (leaf_at leaves k) c.args.from c.args.to c.args.runs.now c.requires.range.0
    (omega (arith, c.requires.range.1, old)) in
    let after = c.leaf-3.ensures ∙ ap (λ (l : LeafRow). leaf_at l.leaves k) c.splice.ensures
    ∙ get_or-set_same leaves k new [] within in
    same-table _ _ _ _ _ _
    (ap (λ (l : LeafRow). l.leaves) c.splice.ensures
    ∙ ap (λ l. set l k (splice (leaf_at l k) c.args.from c.args.to c.args.runs.now)) same)
    (ap (λ (l : LeafRow). l.capacity) c.splice.ensures ∙ ap (λ (l : LeafTable). l.capacity) c.self.view_is)
    (omega (
      arith,
      c.increased.ensures,
      c.increased-self-inside.ensures,
      c.len-before.ensures.value,
      ap length c.leaf.ensures,
      c.len-after.ensures.value,
      ap length after,
      size,
      old,
      c.requires.range.0,
      c.requires.range.1,
      ap (λ (l : LeafTable). l.moved) c.self.view_is,
    ))
