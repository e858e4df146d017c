use Rattle.std.proofs.Common.{ap, ◌∙◌, arith, length, refl}
use Rattle.std.specs.Prelude.{insert, [], ◌∷◌, ◌++◌}
use Rattle.std.proofs.lemmas.List.Elements.{All-cons, All-nil}
use Rattle.sg_table.specs.LeafList.{LeafRow}
use Rattle.sg_table.specs.Leaves.{FitsLeaf}
use Rattle.sg_table.specs.Records.{FitCounts}
use Rattle.sg_table.proofs.LeavesLemmas.{directory-new, same-table}
use Rattle.sg_table.proofs.leaves.Leaves.new.Goals as goal

pub invariant_of-result : goal.invariant_of-result
invariant_of-result c =
    let opened = c.open.ensures ∙ ap (λ (l : LeafRow). record l { leaves = insert l.leaves 0 [] })
    c.in_ok-leaves.ensures in
    let one = ap (λ (l : LeafRow). l.leaves) opened in
    let capacity = ap (λ (l : LeafRow). l.capacity) opened in
    let starts = c.in_ok-starts.ensures in (
      directory-new _ _ one starts.starts,
      omega (arith, ap length one, capacity, c.requires.0),
      omega (arith, capacity, starts.room),
      omega (arith, capacity, c.requires.1),
      rw one (All-cons FitsLeaf [] [] (omega arith) (All-nil FitsLeaf)),
      rw one (c.in_ok-push.ensures.items ∙ ap (λ xs. xs ++ 0 ∷ []) c.in_ok-firsts.ensures.items),
      omega (arith, capacity, c.in_ok-push.ensures.capacity, c.in_ok-firsts.ensures.capacity),
      λ lt. absurd (omega arith),
      rw one (All-cons FitCounts [] [] (All-nil _) (All-nil FitCounts)),
      rw one refl,
    )

pub returns : goal.returns
returns c =
    let opened = c.open.ensures ∙ ap (λ (l : LeafRow). record l { leaves = insert l.leaves 0 [] })
    c.in_ok-leaves.ensures in
    same-table _ _ _ _ _ _ (ap (λ (l : LeafRow). l.leaves) opened)
    (ap (λ (l : LeafRow). l.capacity) opened) c.zero.ensures
