use Rattle.std.proofs.Common.{◌≡◌, ◌+◌, ◌/◌, ◌++◌, ◌∷◌, List, length, take, drop, ap, ◌∙◌, arith}
use Rattle.std.proofs.Common.{length-append}
use Rattle.std.specs.Prelude.{remove}
use Rattle.sg_table.specs.Leaves.{LeafTable, joined, leaf_at, pair_at, triple_at}
use Rattle.sg_table.specs.declared.run.Run.{Run}
use Rattle.sg_table.proofs.BalanceLemmas.{count-united, united-at}
use Rattle.sg_table.proofs.leaves.splicing.unite.Goals as goal

pub halve-requires-clause-count : goal.halve-requires-clause-count
halve-requires-clause-count c =
    let ls = c.args.leaves.now.leaves in
    let k = c.args.leaf in
    let closed : c.close.new.self.leaves ≡ remove ls (k + 2) =
    ap (λ (t : LeafTable). t.leaves) c.close.ensures
    ∙ ap (λ (t : LeafTable). remove t.leaves (k + 2)) c.copy.ensures.leaves in
    let counts = count-united ls k c.requires.leaf in
    omega (
      arith,
      ap (λ (l : List (List Run)). length (joined l)) closed,
      ap (λ (l : List (List Run)). length (pair_at l k)) closed,
      ap length counts.0,
      counts.1,
      ap length (c.as_slice.ensures.value ∙ c.copy.ensures.copied),
      length-append c.args.records.now.items (leaf_at ls (k + 2)),
      ap length c.requires.records,
      c.requires.count,
    )

pub returns-clause-leaves : goal.returns-clause-leaves
returns-clause-leaves c =
    let ls = c.args.leaves.now.leaves in
    let k = c.args.leaf in
    let rs : List Run = c.as_slice.result.now in
    let half = length rs / 2 in
    let closed : c.close.new.self.leaves ≡ remove ls (k + 2) =
    ap (λ (t : LeafTable). t.leaves) c.close.ensures
    ∙ ap (λ (t : LeafTable). remove t.leaves (k + 2)) c.copy.ensures.leaves in
    let all : rs ≡ triple_at ls k =
    c.as_slice.ensures.value ∙ c.copy.ensures.copied
    ∙ ap (λ (x : List Run). x ++ leaf_at ls (k + 2)) c.requires.records in
    c.halve.ensures.leaves
    ∙ ap (λ (l : List (List Run)). take k l ++ take half rs ∷ drop half rs ∷ drop (k + 2) l) closed
    ∙ united-at ls k (take half rs) (drop half rs) c.requires.leaf
    ∙ ap (λ (x : List Run). take k ls ++ take (length x / 2) x ∷ drop (length x / 2) x ∷ drop (k + 3) ls) all
