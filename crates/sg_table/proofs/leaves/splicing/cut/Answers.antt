use Rattle.std.proofs.Common.{◌≡◌, ◌+◌, ◌++◌, [], List, length, take, drop, set, ap, ap₂, ◌∙◌}
use Rattle.std.proofs.Common.{arith, length-drop}
use Rattle.std.proofs.lemmas.List.Elements.{All-same}
use Rattle.sg_table.specs.Leaves.{LeafTable, IsFilled, joined, leaf_at}
use Rattle.sg_table.specs.declared.run.Run.{Run}
use Rattle.sg_table.proofs.AppendLemmas.{count-without}
use Rattle.sg_table.proofs.BalanceLemmas.{filled-but}
use Rattle.sg_table.proofs.CutLeavesLemmas.{before-without, behind-without, end-cut, front-without}
use Rattle.sg_table.proofs.CutLeavesLemmas.{leaf-without, within-without, without}
use Rattle.sg_table.proofs.leaves.splicing.cut.Goals as goal

pub edit-requires-clause-count : goal.edit-requires-clause-count
edit-requires-clause-count c =
    let ls = c.args.leaves.now.leaves in
    let k = c.args.from.leaf in
    let m = c.args.to.leaf + 1 in
    let same = ap (λ (t : LeafTable). t.leaves) c.copy.ensures.leaves in
    let closed = ap (λ (t : LeafTable). t.leaves) c.close_behind.ensures
    ∙ ap (λ (l : List (List Run)). without l k m) same in
    omega (
      arith,
      ap (λ (l : List (List Run)). length (joined l)) closed,
      count-without ls (k + 1) m (omega arith),
      c.requires.count,
    )

pub returns-clause-leaves : goal.returns-clause-leaves
returns-clause-leaves c =
    let old = c.args.leaves.now in
    let ls = old.leaves in
    let k = c.args.from.leaf in
    let m = c.args.to.leaf + 1 in
    let leaf = leaf_at ls k in
    let front : List Run = take c.args.from.offset leaf in
    let leaves = λ (t : LeafTable). t.leaves in
    let capacity = λ (t : LeafTable). t.capacity in
    let moved = λ (t : LeafTable). t.moved in
    let order = c.requires.places.in_order in
    let within = c.requires.places.within in
    let copied : c.copy.new.self.leaves ≡ ls = ap leaves c.copy.ensures.leaves in
    let closed : c.close_behind.new.leaves.leaves ≡ without ls k m =
    ap leaves c.close_behind.ensures ∙ ap (λ (l : List (List Run)). without l k m) copied in
    let own : leaf_at c.close_behind.new.leaves.leaves k ≡ leaf =
    ap (λ (l : List (List Run)). leaf_at l k) closed ∙ leaf-without ls k m (omega arith) in
    let size : c.len-len.result ≡ length leaf = c.len-len.ensures.value ∙ ap length own in
    let new = ap (λ (l : List Run). take c.args.from.offset l ++ ([] ++ drop c.len-len.result l)) own
    ∙ end-cut leaf c.args.from.offset c.len-len.result size in
    let edited : c.edit.new.self.leaves ≡ set (without ls k m) k front =
    ap leaves c.edit.ensures ∙ ap₂ (λ (l : List (List Run)) (x : List Run). set l k x) closed new in
    let but = filled-but ls k (omega arith) c.requires.balanced in
    let last = filled-but ls c.args.to.leaf (omega arith) c.requires.balanced in
    record {
      within = omega (arith, ap length edited, within-without ls k m front (omega arith));
      filled = record {
        before = All-same IsFilled _ _ (ap (take k) edited
            ∙ before-without ls k m front (omega arith)) but.before;
        after = All-same IsFilled _ _ (ap (drop (k + 1)) edited ∙ behind-without ls k m front (omega arith))
            last.after;
      };
      front = ap (λ (l : List (List Run)). joined (take (k + 1) l)) edited
          ∙ front-without ls k m front (omega arith);
      behind = ap (drop (k + 1)) edited ∙ behind-without ls k m front (omega arith);
      moves = record {
        capacity = ap capacity c.edit.ensures ∙ ap capacity c.close_behind.ensures
            ∙ ap capacity c.copy.ensures.leaves;
        rise = omega (
          arith,
          ap moved c.edit.ensures,
          ap moved c.close_behind.ensures,
          ap moved c.copy.ensures.leaves,
        );
        moved = omega (
          arith,
          ap moved c.edit.ensures,
          ap moved c.close_behind.ensures,
          ap moved c.copy.ensures.leaves,
          ap length own,
          size,
          c.len-len.ensures.fits,
          c.copy.ensures.fits,
          ap length c.requires.empty,
          ap length c.copy.ensures.copied,
          ap (λ (l : List Run). length (l ++ drop c.args.to.offset (leaf_at ls c.args.to.leaf)))
              c.requires.empty,
          length-drop c.args.to.offset (leaf_at ls c.args.to.leaf),
        );
      };
    }
