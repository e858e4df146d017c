use Rattle.std.proofs.Common.{◌≡◌, ◌+◌, ◌/◌, ◌<◌, ◌≤◌, ◌++◌, [], ◌∷◌, List, length, take, drop}
use Rattle.std.proofs.Common.{get_or, sym, ap, ◌∙◌, arith, refl, length-append, length-drop}
use Rattle.std.proofs.lemmas.List.{drop-drop, get_or-drop, length-take-le}
use Rattle.std.proofs.lemmas.List.Elements.{All-cons, All-drop, All-same}
use Rattle.sg_table.specs.Leaves.{LeafTable, IsFilled, joined, leaf_at, min_leaf, triple_at}
use Rattle.sg_table.specs.declared.run.Run.{Run}
use Rattle.sg_table.proofs.BalanceLemmas.{joined-merged-at, joined-halved-at, joined-united-at}
use Rattle.sg_table.proofs.BalanceLemmas.{filled-around, filled-one}
use Rattle.sg_table.proofs.leaves.splicing.level.Goals as goal

pub returns-then-len-gt-MAX_LEAF-clause-records : goal.returns-then-len-gt-MAX_LEAF-clause-records
returns-then-len-gt-MAX_LEAF-clause-records c =
    let ls = c.args.leaves.now.leaves in
    let k = c.args.leaf in
    let rs : List Run = c.as_slice.result.now in
    let half = length rs / 2 in
    let same = ap (λ (t : LeafTable). t.leaves) c.gather.ensures.leaves in
    let all = c.as_slice.ensures.value ∙ c.gather.ensures.records in
    ap joined c.halve.ensures.leaves
    ∙ ap (λ (l : List (List Run)). joined (take k l ++ take half rs ∷ drop half rs ∷ drop (k + 2) l)) same
    ∙ joined-halved-at ls k half rs c.requires.leaf all

pub returns-then-len-gt-MAX_LEAF-clause-filled : goal.returns-then-len-gt-MAX_LEAF-clause-filled
returns-then-len-gt-MAX_LEAF-clause-filled c =
    let ls = c.args.leaves.now.leaves in
    let k = c.args.leaf in
    let rs : List Run = c.as_slice.result.now in
    let half = length rs / 2 in
    let same = ap (λ (t : LeafTable). t.leaves) c.gather.ensures.leaves in
    let large = ap length c.as_slice.ensures.value in
    let first = length-take-le half rs (omega arith) in
    let second = length-drop half rs in
    All-same IsFilled _ _
    (c.halve.ensures.leaves ∙ ap
    (λ (l : List (List Run)). take k l ++ take half rs ∷ drop half rs ∷ drop (k + 2) l) same)
    (filled-around (take k ls) (drop (k + 2) ls) (take half rs ∷ drop half rs ∷ []) c.requires.before
    (All-cons IsFilled (take half rs) (drop half rs ∷ []) (omega (arith, large, c.len.ensures.value))
    (filled-one (drop half rs) (omega (arith, large, c.len.ensures.value)))) c.requires.behind)

pub returns-then-leaf-used-clause-records : goal.returns-then-leaf-used-clause-records
returns-then-leaf-used-clause-records c =
    let ls = c.args.leaves.now.leaves in
    let k = c.args.leaf in
    let same = ap (λ (t : LeafTable). t.leaves) c.gather.ensures.leaves in
    let there : k + 2 < length ls = omega (arith, ap length same, c.used-used.ensures.value) in
    let all = triple_at ls k in
    let half = length all / 2 in
    ap joined c.unite.ensures.leaves
    ∙ ap (λ (l : List (List Run)). let rs = triple_at l k in let n = length rs / 2 in
    joined (take k l ++ take n rs ∷ drop n rs ∷ drop (k + 3) l)) same
    ∙ joined-united-at ls k half all there refl

pub returns-then-leaf-used-clause-filled : goal.returns-then-leaf-used-clause-filled
returns-then-leaf-used-clause-filled c =
    let ls = c.args.leaves.now.leaves in
    let k = c.args.leaf in
    let same = ap (λ (t : LeafTable). t.leaves) c.gather.ensures.leaves in
    let there : k + 2 < length ls = omega (arith, ap length same, c.used-used.ensures.value) in
    let all = triple_at ls k in
    let half = length all / 2 in
    let third : min_leaf ≤ length (get_or (drop (k + 2) ls) 0 []) =
    c.requires.behind 0 [] (omega (arith, length-drop (k + 2) ls, there)) in
    let zero : k + 2 + 0 ≡ k + 2 = omega arith in
    let at : get_or (drop (k + 2) ls) 0 [] ≡ leaf_at ls (k + 2) =
    get_or-drop (k + 2) ls 0 [] ∙ ap (leaf_at ls) zero in
    let three : k + 2 + 1 ≡ k + 3 = omega arith in
    let rest : drop 1 (drop (k + 2) ls) ≡ drop (k + 3) ls =
    drop-drop 1 (k + 2) ls ∙ ap (λ n. drop n ls) three in
    let size = length-append (leaf_at ls k ++ leaf_at ls (k + 1)) (leaf_at ls (k + 2)) in
    let pair = length-append (leaf_at ls k) (leaf_at ls (k + 1)) in
    let large : 256 ≤ length all =
    omega (arith, size, pair, c.requires.pair, third, ap length at) in
    let first = length-take-le half all (omega arith) in
    let second = length-drop half all in
    All-same IsFilled _ _
    (c.unite.ensures.leaves ∙ ap (λ (l : List (List Run)). let rs = triple_at l k in let n = length rs / 2 in
    take k l ++ take n rs ∷ drop n rs ∷ drop (k + 3) l) same)
    (filled-around (take k ls) (drop (k + 3) ls) (take half all ∷ drop half all ∷ []) c.requires.before
    (All-cons IsFilled (take half all) (drop half all ∷ []) (omega (arith, large))
    (filled-one (drop half all) (omega (arith, large))))
    (All-same IsFilled _ _ (sym rest) (All-drop IsFilled 1 (drop (k + 2) ls) c.requires.behind)))

pub returns-else-leaf-used-clause-records : goal.returns-else-leaf-used-clause-records
returns-else-leaf-used-clause-records c =
    let ls = c.args.leaves.now.leaves in
    let k = c.args.leaf in
    let rs : List Run = c.as_slice-else-leaf-used.result.now in
    let same = ap (λ (t : LeafTable). t.leaves) c.gather.ensures.leaves in
    ap joined c.merge.ensures.leaves
    ∙ ap (λ (l : List (List Run)). joined (take k l ++ rs ∷ drop (k + 2) l)) same
    ∙ joined-merged-at ls k rs c.requires.leaf
    (c.as_slice-else-leaf-used.ensures.value ∙ c.gather.ensures.records)

pub returns-else-leaf-used-clause-filled : goal.returns-else-leaf-used-clause-filled
returns-else-leaf-used-clause-filled c =
    let ls = c.args.leaves.now.leaves in
    let k = c.args.leaf in
    let rs : List Run = c.as_slice-else-leaf-used.result.now in
    let same = ap (λ (t : LeafTable). t.leaves) c.gather.ensures.leaves in
    let all = c.as_slice-else-leaf-used.ensures.value ∙ c.gather.ensures.records in
    let size = ap length all ∙ length-append (leaf_at ls k) (leaf_at ls (k + 1)) in
    All-same IsFilled _ _
    (c.merge.ensures.leaves ∙ ap (λ (l : List (List Run)). take k l ++ rs ∷ drop (k + 2) l) same)
    (filled-around (take k ls) (drop (k + 2) ls) (rs ∷ []) c.requires.before
    (filled-one rs (omega (arith, size, c.requires.pair))) c.requires.behind)
