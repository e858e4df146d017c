-- Leaves that are taken together with their neighbours.
use Rattle.std.proofs.Common.{◌≡◌, ℕ, zero, suc, ◌+◌, ◌-◌, ◌*◌, ◌<◌, ◌≤◌, List, [], ◌∷◌, ◌++◌}
use Rattle.std.proofs.Common.{length, get_or, set}
use Rattle.std.proofs.Common.{take, drop, sym, ap, ap₂, ◌∙◌, arith, refl, add-one, append_assoc}
use Rattle.std.proofs.Common.{length-append, length-drop}
use Rattle.std.proofs.Common.{⊎_elim}
use Rattle.std.proofs.lemmas.List.{append-nil, drop_all, drop-drop, drop_more, get_or-drop, get_or-take}
use Rattle.std.proofs.lemmas.List.{length-take-le, take-append-drop, take-take}
use Rattle.std.proofs.lemmas.List.Elements.{All-append, All-cons, All-drop, All-head, All-nil}
use Rattle.std.proofs.lemmas.List.Elements.{All-same, All-tail}
use Rattle.std.proofs.lemmas.List.Elements.{All-take}
use Rattle.std.specs.Prelude.{remove}
use Rattle.std.specs.List.{All}
use Rattle.sg_table.specs.Leaves.{AreBalanced, AreFilledBut, IsFilled, joined, leaf_at, pair_at}
use Rattle.sg_table.specs.Leaves.{min_leaf, triple_at}
use Rattle.sg_table.specs.declared.run.Run.{Run}

-- two neighbours become one leaf
pub merged : (ls : List (List Run)) (k : ℕ) (all : List Run) → suc k < length ls
    → set (remove ls (suc k)) k all ≡ take k ls ++ all ∷ drop (suc (suc k)) ls
merged [] k all lt = absurd (omega arith)
merged (leaf ∷ []) k all lt = absurd (omega arith)
merged (leaf ∷ other ∷ ls) zero all lt = refl
merged (leaf ∷ other ∷ ls) (suc k) all lt = ap (λ x. leaf ∷ x) (merged (other ∷ ls) k all (omega arith))

-- two neighbours get other records, the second one after it was emptied
pub levelled : (ls : List (List Run)) (k : ℕ) (a b : List Run) → suc k < length ls
    → set (set (set ls (suc k) []) k a) (suc k) b ≡ take k ls ++ a ∷ b ∷ drop (suc (suc k)) ls
levelled [] k a b lt = absurd (omega arith)
levelled (leaf ∷ []) k a b lt = absurd (omega arith)
levelled (leaf ∷ other ∷ ls) zero a b lt = refl
levelled (leaf ∷ other ∷ ls) (suc k) a b lt =
    ap (λ x. leaf ∷ x) (levelled (other ∷ ls) k a b (omega arith))

-- the third of three neighbours is removed, and the others get other records
pub united : (ls : List (List Run)) (k : ℕ) (a b : List Run) → suc (suc k) < length ls
    → take k (remove ls (suc (suc k))) ++ a ∷ b ∷ drop (suc (suc k)) (remove ls (suc (suc k)))
    ≡ take k ls ++ a ∷ b ∷ drop (suc (suc (suc k))) ls
united [] k a b lt = absurd (omega arith)
united (leaf ∷ []) k a b lt = absurd (omega arith)
united (leaf ∷ other ∷ []) k a b lt = absurd (omega arith)
united (leaf ∷ other ∷ next ∷ ls) zero a b lt = refl
united (leaf ∷ other ∷ next ∷ ls) (suc k) a b lt =
    ap (λ x. leaf ∷ x) (united (other ∷ next ∷ ls) k a b (omega arith))

-- the leaf before a removed one
pub leaf-before : (ls : List (List Run)) (k : ℕ) → leaf_at (remove ls (suc k)) k ≡ leaf_at ls k
leaf-before [] k = refl
leaf-before (leaf ∷ ls) zero = refl
leaf-before (leaf ∷ ls) (suc k) = leaf-before ls k

leaf-further-before : (ls : List (List Run)) (k : ℕ) → leaf_at (remove ls (suc (suc k))) k ≡ leaf_at ls k
leaf-further-before [] k = refl
leaf-further-before (leaf ∷ ls) zero = refl
leaf-further-before (leaf ∷ ls) (suc k) = leaf-further-before ls k

-- the number of records without a leaf
count-removed : (ls : List (List Run)) (k : ℕ) → k < length ls
    → length (joined (remove ls k)) + length (leaf_at ls k) ≡ length (joined ls)
count-removed [] k lt = absurd (omega arith)
count-removed (leaf ∷ ls) zero lt = omega (arith, length-append leaf (joined ls))
count-removed (leaf ∷ ls) (suc k) lt =
    omega (
      arith,
      count-removed ls k (omega arith),
      length-append leaf (joined (remove ls k)),
      length-append leaf (joined ls),
    )

-- one of two neighbours, and the number of records without it and with those of both once more
pub count-merged : (ls : List (List Run)) (k : ℕ) → k + 1 < length ls
    → (leaf_at (remove ls (k + 1)) k ≡ leaf_at ls k)
    × (length (joined (remove ls (k + 1))) + length (pair_at ls k)
    ≡ length (joined ls) + length (leaf_at ls k))
count-merged ls k lt =
    let one : k + 1 ≡ suc k = add-one k in (
      rw one (leaf-before ls k),
      omega (
        arith,
        count-removed ls (k + 1) lt,
        length-append (leaf_at ls k) (leaf_at ls (k + 1)),
      ),
    )

-- two of three neighbours without the third, and the number of records without it
pub count-united : (ls : List (List Run)) (k : ℕ) → k + 2 < length ls
    → (pair_at (remove ls (k + 2)) k ≡ pair_at ls k)
    × (length (joined (remove ls (k + 2))) + length (leaf_at ls (k + 2)) ≡ length (joined ls))
count-united ls k lt =
    let one : k + 1 ≡ suc k = add-one k in
    let two : k + 2 ≡ suc (suc k) = omega arith in (
      rw (one, two) (ap₂ (λ x y. x ++ y) (leaf-further-before ls k) (leaf-before ls (suc k))),
      count-removed ls (k + 2) lt,
    )

pub joined-merged : (ls : List (List Run)) (k : ℕ) → suc k < length ls
    → joined (take k ls ++ (leaf_at ls k ++ leaf_at ls (suc k)) ∷ drop (suc (suc k)) ls) ≡ joined ls
joined-merged [] k lt = absurd (omega arith)
joined-merged (leaf ∷ []) k lt = absurd (omega arith)
joined-merged (leaf ∷ other ∷ ls) zero lt = append_assoc leaf other (joined ls)
joined-merged (leaf ∷ other ∷ ls) (suc k) lt =
    ap (λ x. leaf ++ x) (joined-merged (other ∷ ls) k (omega arith))

pub joined-levelled : (ls : List (List Run)) (k : ℕ) (a b : List Run) → suc k < length ls
    → a ++ b ≡ leaf_at ls k ++ leaf_at ls (suc k)
    → joined (take k ls ++ a ∷ b ∷ drop (suc (suc k)) ls) ≡ joined ls
joined-levelled [] k a b lt e = absurd (omega arith)
joined-levelled (leaf ∷ []) k a b lt e = absurd (omega arith)
joined-levelled (leaf ∷ other ∷ ls) zero a b lt e =
    sym (append_assoc a b (joined ls)) ∙ ap (λ x. x ++ joined ls) e ∙ append_assoc leaf other (joined ls)
joined-levelled (leaf ∷ other ∷ ls) (suc k) a b lt e =
    ap (λ x. leaf ++ x) (joined-levelled (other ∷ ls) k a b (omega arith) e)

pub joined-united : (ls : List (List Run)) (k : ℕ) (a b : List Run) → suc (suc k) < length ls
    → a ++ b ≡ (leaf_at ls k ++ leaf_at ls (suc k)) ++ leaf_at ls (suc (suc k))
    → joined (take k ls ++ a ∷ b ∷ drop (suc (suc (suc k))) ls) ≡ joined ls
joined-united [] k a b lt e = absurd (omega arith)
joined-united (leaf ∷ []) k a b lt e = absurd (omega arith)
joined-united (leaf ∷ other ∷ []) k a b lt e = absurd (omega arith)
joined-united (leaf ∷ other ∷ next ∷ ls) zero a b lt e =
    sym (append_assoc a b (joined ls)) ∙ ap (λ x. x ++ joined ls) e
    ∙ append_assoc (leaf ++ other) next (joined ls) ∙ append_assoc leaf other (next ++ joined ls)
joined-united (leaf ∷ other ∷ next ∷ ls) (suc k) a b lt e =
    ap (λ x. leaf ++ x) (joined-united (other ∷ next ∷ ls) k a b (omega arith) e)

-- all records of a leaf are replaced
pub whole-spliced : (old all : List Run) (count : ℕ) → count ≡ length old → all ++ drop count old ≡ all
whole-spliced old all count e =
    ap (λ x. all ++ x) (drop_all count old (omega arith)) ∙ append-nil all

pub merged-at : (ls : List (List Run)) (k : ℕ) (all : List Run) → k + 1 < length ls
    → set (remove ls (k + 1)) k all ≡ take k ls ++ all ∷ drop (k + 2) ls
merged-at ls k all lt =
    let one : k + 1 ≡ suc k = add-one k in
    let two : k + 2 ≡ suc (suc k) = omega arith in
    rw (one, two) (merged ls k all (omega arith))

pub halved-at : (ls : List (List Run)) (k : ℕ) (a b : List Run) → k + 1 < length ls
    → set (set (set ls (k + 1) []) k a) (k + 1) b ≡ take k ls ++ a ∷ b ∷ drop (k + 2) ls
halved-at ls k a b lt =
    let one : k + 1 ≡ suc k = add-one k in
    let two : k + 2 ≡ suc (suc k) = omega arith in
    rw (one, two) (levelled ls k a b (omega arith))

pub joined-merged-at : (ls : List (List Run)) (k : ℕ) (all : List Run) → k + 1 < length ls
    → all ≡ pair_at ls k → joined (take k ls ++ all ∷ drop (k + 2) ls) ≡ joined ls
joined-merged-at ls k all lt e =
    let one : k + 1 ≡ suc k = add-one k in
    let two : k + 2 ≡ suc (suc k) = omega arith in
    rw (e, one, two) (joined-merged ls k (omega arith))

pub joined-halved-at : (ls : List (List Run)) (k n : ℕ) (all : List Run) → k + 1 < length ls
    → all ≡ pair_at ls k → joined (take k ls ++ take n all ∷ drop n all ∷ drop (k + 2) ls) ≡ joined ls
joined-halved-at ls k n all lt e =
    let one : k + 1 ≡ suc k = add-one k in
    let two : k + 2 ≡ suc (suc k) = omega arith in
    let whole : take n all ++ drop n all ≡ leaf_at ls k ++ leaf_at ls (suc k) =
    take-append-drop n all ∙ e ∙ ap (λ i. leaf_at ls k ++ leaf_at ls i) one in
    rw two (joined-levelled ls k (take n all) (drop n all) (omega arith) whole)

pub united-at : (ls : List (List Run)) (k : ℕ) (a b : List Run) → k + 2 < length ls
    → take k (remove ls (k + 2)) ++ a ∷ b ∷ drop (k + 2) (remove ls (k + 2))
    ≡ take k ls ++ a ∷ b ∷ drop (k + 3) ls
united-at ls k a b lt =
    let two : k + 2 ≡ suc (suc k) = omega arith in
    let three : k + 3 ≡ suc (suc (suc k)) = omega arith in
    rw (two, three) (united ls k a b (omega arith))

pub joined-united-at : (ls : List (List Run)) (k n : ℕ) (all : List Run) → k + 2 < length ls
    → all ≡ triple_at ls k → joined (take k ls ++ take n all ∷ drop n all ∷ drop (k + 3) ls) ≡ joined ls
joined-united-at ls k n all lt e =
    let one : k + 1 ≡ suc k = add-one k in
    let two : k + 2 ≡ suc (suc k) = omega arith in
    let three : k + 3 ≡ suc (suc (suc k)) = omega arith in
    let whole : take n all ++ drop n all ≡ (leaf_at ls k ++ leaf_at ls (suc k)) ++ leaf_at ls (suc (suc k)) =
    take-append-drop n all ∙ e ∙ rw (one, two) refl in
    rw three (joined-united ls k (take n all) (drop n all) (omega arith) whole)

-- the leaves around the replaced leaves have enough records
pub filled-around : (before after middle : List (List Run)) → All IsFilled before → All IsFilled middle
    → All IsFilled after → All IsFilled (before ++ (middle ++ after))
filled-around before after middle p q r =
    All-append IsFilled before (middle ++ after) p (All-append IsFilled middle after q r)

pub filled-one : (leaf : List Run) → min_leaf ≤ length leaf → All IsFilled (leaf ∷ [])
filled-one leaf le = All-cons IsFilled leaf [] le (All-nil IsFilled)

pub list-split : (ls : List (List Run)) (k : ℕ) → k < length ls
    → ls ≡ take k ls ++ leaf_at ls k ∷ drop (k + 1) ls
list-split ls k lt =
    sym (take-append-drop k ls) ∙ ap (λ x. take k ls ++ x) (drop_more ls k [] lt)

-- all leaves have enough records if the leaf in work has
pub filled-all : (ls : List (List Run)) (k : ℕ) → k < length ls → AreFilledBut ls k
    → min_leaf ≤ length (leaf_at ls k) → All IsFilled ls
filled-all ls k lt but le =
    All-same IsFilled ls (take k ls ++ leaf_at ls k ∷ drop (k + 1) ls) (list-split ls k lt)
    (filled-around (take k ls) (drop (k + 1) ls) (leaf_at ls k ∷ []) but.before
    (filled-one (leaf_at ls k) le) but.after)

-- and there are then not more leaves than the records fill
pub filled-count : (ls : List (List Run)) → All IsFilled ls → min_leaf * length ls ≤ length (joined ls)
filled-count [] all = omega arith
filled-count (leaf ∷ ls) all =
    let first : min_leaf ≤ length leaf = All-head IsFilled leaf ls all in
    let rest = filled-count ls (All-tail IsFilled leaf ls all) in
    omega (arith, length-append leaf (joined ls))

pub filled-but : (ls : List (List Run)) (k : ℕ) → k < length ls → AreBalanced ls → AreFilledBut ls k
filled-but ls k lt balanced =
    ⊎_elim
    (λ (one : length ls ≡ 1).
    let first : k ≡ 0 = omega arith in
    let before : take k ls ≡ [] = ap (λ n. take n ls) first in
    let after : drop (k + 1) ls ≡ [] = drop_all (k + 1) ls (omega arith) in
    record {
      before = All-same IsFilled (take k ls) [] before (All-nil IsFilled);
      after = All-same IsFilled (drop (k + 1) ls) [] after (All-nil IsFilled);
    })
    (λ (all : All IsFilled ls).
    record { before = All-take IsFilled k ls all; after = All-drop IsFilled (k + 1) ls all })
    balanced

-- the leaf in work, which has too few records, and its neighbour
pub record IsPair (ls : List (List Run)) (left : ℕ) : Type 0 where
  pub size : min_leaf ≤ length (leaf_at ls left) + length (leaf_at ls (left + 1))
  pub before : All IsFilled (take left ls)
  pub behind : All IsFilled (drop (left + 2) ls)

pub pair-of : (ls : List (List Run)) (k left : ℕ) → left ≡ k - 1 → k < length ls → 1 < length ls
    → AreFilledBut ls k → IsPair ls left
pair-of ls zero left e lt more but =
    let first : left ≡ 0 = omega arith in
    let next : min_leaf ≤ length (get_or (drop 1 ls) 0 []) =
    but.after 0 [] (omega (arith, length-drop 1 ls)) in
    let at : get_or (drop 1 ls) 0 [] ≡ leaf_at ls 1 = get_or-drop 1 ls 0 [] in
    let rest : drop 1 (drop 1 ls) ≡ drop 2 ls = drop-drop 1 1 ls in
    rw first (record {
      size = omega (arith, next, ap length at);
      before = All-nil IsFilled;
      behind = rw rest at (All-drop IsFilled 1 (drop 1 ls) but.after);
    })
pair-of ls (suc k) left e lt more but =
    let first : left ≡ k = omega arith in
    let own : min_leaf ≤ length (get_or (take (suc k) ls) k []) =
    but.before k [] (omega (arith, length-take-le (suc k) ls (omega arith))) in
    let at : get_or (take (suc k) ls) k [] ≡ leaf_at ls k = get_or-take (suc k) ls k [] (omega arith) in
    let front : take k (take (suc k) ls) ≡ take k ls = take-take k (suc k) ls (omega arith) in
    let rest : suc k + 1 ≡ k + 2 = omega arith in
    rw first (record {
      size = omega (arith, own, ap length at);
      before = rw front at (All-take IsFilled k (take (suc k) ls) but.before);
      behind = rw rest at but.after;
    })
