use Rattle.std.proofs.Common.{◌≡◌, ◌≢◌, ◌+◌, ◌-◌, ◌/◌, List, [], length, take, drop, set, ap, ◌∙◌, sym}
use Rattle.std.proofs.Common.{arith, length-append, length-drop, length-set}
use Rattle.std.proofs.lemmas.List.{get_or-set_other, get_or-set_same, take_rest, length-take-le}
use Rattle.sg_table.specs.Leaves.{LeafTable, joined, leaf_at}
use Rattle.sg_table.specs.declared.run.Run.{Run}
use Rattle.sg_table.proofs.LeavesLemmas.{count-set}
use Rattle.sg_table.proofs.BalanceLemmas.{halved-at, whole-spliced}
use Rattle.sg_table.proofs.leaves.splicing.halve.Goals as goal

pub edit-requires-2-clause-count : goal.edit-requires-2-clause-count
edit-requires-2-clause-count c =
    let ls = c.args.leaves.now.leaves in
    let k = c.args.leaf in
    let all = c.args.records.now in
    let half = length all / 2 in
    let emptied : c.edit.new.self.leaves ≡ set ls (k + 1) [] =
    ap (λ (t : LeafTable). t.leaves) c.edit.ensures ∙ ap (set ls (k + 1))
    (whole-spliced (leaf_at ls (k + 1)) [] c.len-right.result c.len-right.ensures.value) in
    omega (
      arith,
      ap (λ (l : List (List Run)). length (joined l)) emptied,
      count-set ls (k + 1) [] c.requires.leaf,
      length-take-le half all (omega arith),
      c.requires.records,
      length-append (leaf_at ls k) (leaf_at ls (k + 1)),
      c.requires.count,
      c.len-left.ensures.value,
    )

pub edit-requires-3-clause-count : goal.edit-requires-3-clause-count
edit-requires-3-clause-count c =
    let ls = c.args.leaves.now.leaves in
    let k = c.args.leaf in
    let all = c.args.records.now in
    let half = length all / 2 in
    let lt = c.requires.leaf in
    let other : k ≢ k + 1 = λ same. omega (arith, same) in
    let emptied : c.edit.new.self.leaves ≡ set ls (k + 1) [] =
    ap (λ (t : LeafTable). t.leaves) c.edit.ensures ∙ ap (set ls (k + 1))
    (whole-spliced (leaf_at ls (k + 1)) [] c.len-right.result c.len-right.ensures.value) in
    let left = ap (λ (l : List (List Run)). leaf_at l k) emptied
    ∙ get_or-set_other ls (k + 1) k [] [] other in
    let first : c.edit-2.new.self.leaves ≡ set (set ls (k + 1) []) k (take half all) =
    ap (λ (t : LeafTable). t.leaves) c.edit-2.ensures ∙ ap (set c.edit.new.self.leaves k)
    (whole-spliced (leaf_at c.edit.new.self.leaves k) (take half all) c.len-left.result
    (c.len-left.ensures.value ∙ sym (ap length left)))
    ∙ ap (λ (l : List (List Run)). set l k (take half all)) emptied in
    omega (
      arith,
      ap (λ (l : List (List Run)). length (joined l)) first,
      count-set (set ls (k + 1) []) k (take half all) (omega (arith, length-set ls (k + 1) [], lt)),
      count-set ls (k + 1) [] lt,
      ap length (get_or-set_other ls (k + 1) k [] [] other),
      ap length (take_rest all half),
      length-take-le half all (omega arith),
      length-drop half all,
      c.requires.records,
      length-append (leaf_at ls k) (leaf_at ls (k + 1)),
      c.requires.count,
    )

pub returns-clause-leaves : goal.returns-clause-leaves
returns-clause-leaves c =
    let ls = c.args.leaves.now.leaves in
    let k = c.args.leaf in
    let all = c.args.records.now in
    let half = length all / 2 in
    let lt = c.requires.leaf in
    let other : k ≢ k + 1 = λ same. omega (arith, same) in
    let another : k + 1 ≢ k = λ same. omega (arith, same) in
    let emptied : c.edit.new.self.leaves ≡ set ls (k + 1) [] =
    ap (λ (t : LeafTable). t.leaves) c.edit.ensures ∙ ap (set ls (k + 1))
    (whole-spliced (leaf_at ls (k + 1)) [] c.len-right.result c.len-right.ensures.value) in
    let left = ap (λ (l : List (List Run)). leaf_at l k) emptied
    ∙ get_or-set_other ls (k + 1) k [] [] other in
    let first : c.edit-2.new.self.leaves ≡ set (set ls (k + 1) []) k (take half all) =
    ap (λ (t : LeafTable). t.leaves) c.edit-2.ensures ∙ ap (set c.edit.new.self.leaves k)
    (whole-spliced (leaf_at c.edit.new.self.leaves k) (take half all) c.len-left.result
    (c.len-left.ensures.value ∙ sym (ap length left)))
    ∙ ap (λ (l : List (List Run)). set l k (take half all)) emptied in
    let right = ap (λ (l : List (List Run)). leaf_at l (k + 1)) first
    ∙ get_or-set_other (set ls (k + 1) []) k (k + 1) (take half all) [] another
    ∙ get_or-set_same ls (k + 1) [] [] lt in
    ap (λ (t : LeafTable). t.leaves) c.edit-3.ensures
    ∙ ap (set c.edit-2.new.self.leaves (k + 1))
    (whole-spliced (leaf_at c.edit-2.new.self.leaves (k + 1)) (take (length all - half) (drop half all)) 0
    (sym (ap length right)) ∙ take_rest all half)
    ∙ ap (λ (l : List (List Run)). set l (k + 1) (drop half all)) first
    ∙ halved-at ls k (take half all) (drop half all) lt
