-- The number of addresses of records that have data, record by record and leaf by leaf.
use Rattle.std.proofs.Common.{◌≡◌, ℕ, zero, suc, ◌+◌, ◌-◌, ◌*◌, ◌^◌, ◌<◌, ◌≤◌, List, [], ◌∷◌, ◌++◌}
use Rattle.std.proofs.Common.{length, set, arith, ap, ◌∙◌, take, drop, get_or, length-append}
use Rattle.std.proofs.Common.{drop-drop, take-append-drop}
use Rattle.std.proofs.lemmas.List.{take_more}
use Rattle.std.proofs.lemmas.List.Elements.{All-head, All-tail}
use Rattle.std.specs.List.{All, splice}
use Rattle.std.specs.Prelude.{insert, remove}
use Rattle.sg_table.specs.Leaves.{joined, leaf_at}
use Rattle.sg_table.specs.Records.{FitCounts, FitsCount, count_if_data, data_in}
use Rattle.sg_table.specs.declared.run.Kind.{Kind}
use Rattle.sg_table.specs.declared.run.Kind.TheVariants.{Data, Anchored}
use Rattle.sg_table.specs.declared.run.Run.{Run}

pub data-append : (xs ys : List Run) → data_in (xs ++ ys) ≡ data_in xs + data_in ys
data-append [] ys = omega arith
data-append (x ∷ xs) ys = let rest = data-append xs ys in omega arith

-- one more record
pub data-more : (rs : List Run) (i : ℕ) (d : Run) → i < length rs
    → data_in (take (i + 1) rs) ≡ data_in (take i rs)
    + count_if_data (get_or rs i d).kind (get_or rs i d).count
data-more rs i d h = ap data_in (take_more rs i d h) ∙ data-append (take i rs) (get_or rs i d ∷ [])
    ∙ omega arith

pub data-within : (kind : Kind) (count : ℕ) → count_if_data kind count ≤ count
data-within Data count = omega arith
data-within Anchored count = omega arith

-- some records replaced by others
data-splice : (rs runs : List Run) (from to : ℕ) → from ≤ to
    → data_in (splice rs from to runs) + data_in (take (to - from) (drop from rs))
    ≡ data_in rs + data_in runs
data-splice rs runs from to le =
    let gone : List Run = take (to - from) (drop from rs) in
    let e : from + (to - from) ≡ to = omega arith in
    let rest = data-append gone (drop (to - from) (drop from rs))
    ∙ ap (λ xs. data_in gone + data_in xs)
    (drop-drop (to - from) from rs ∙ ap (λ n. drop n rs) e) in
    omega (
      arith,
      data-append (take from rs) (runs ++ drop to rs),
      data-append runs (drop to rs),
      ap data_in (take-append-drop from rs),
      data-append (take from rs) (drop from rs),
      ap data_in (take-append-drop (to - from) (drop from rs)),
      rest,
    )

-- a leaf gets other records
data-set : (ls : List (List Run)) (k : ℕ) (new : List Run) → k < length ls
    → data_in (joined (set ls k new)) + data_in (leaf_at ls k) ≡ data_in (joined ls) + data_in new
data-set [] k new lt = absurd (omega arith)
data-set (leaf ∷ ls) zero new lt =
    omega (arith, data-append new (joined ls), data-append leaf (joined ls))
data-set (leaf ∷ ls) (suc k) new lt =
    omega (
      arith,
      data-set ls k new (omega arith),
      data-append leaf (joined (set ls k new)),
      data-append leaf (joined ls),
    )

pub data-edit : (ls : List (List Run)) (k : ℕ) (runs : List Run) (from to : ℕ) → k < length ls → from ≤ to
    → data_in (joined (set ls k (splice (leaf_at ls k) from to runs)))
    + data_in (take (to - from) (drop from (leaf_at ls k))) ≡ data_in (joined ls) + data_in runs
data-edit ls k runs from to lt le =
    omega (
      arith,
      data-set ls k (splice (leaf_at ls k) from to runs) lt,
      data-splice (leaf_at ls k) runs from to le,
    )

-- a leaf without records is added
pub data-insert : (ls : List (List Run)) (k : ℕ) → k ≤ length ls
    → data_in (joined (insert ls k [])) ≡ data_in (joined ls)
data-insert ls zero le = omega arith
data-insert [] (suc k) le = absurd (omega arith)
data-insert (leaf ∷ ls) (suc k) le =
    omega (
      arith,
      data-insert ls k (omega arith),
      data-append leaf (joined (insert ls k [])),
      data-append leaf (joined ls),
    )

-- a leaf is removed
pub data-remove : (ls : List (List Run)) (k : ℕ) → k < length ls
    → data_in (joined (remove ls k)) + data_in (leaf_at ls k) ≡ data_in (joined ls)
data-remove [] k lt = absurd (omega arith)
data-remove (leaf ∷ ls) zero lt = omega (arith, data-append leaf (joined ls))
data-remove (leaf ∷ ls) (suc k) lt =
    omega (
      arith,
      data-remove ls k (omega arith),
      data-append leaf (joined (remove ls k)),
      data-append leaf (joined ls),
    )

-- the number fits its field
pub data-fits : (rs : List Run) → FitCounts rs → data_in rs ≤ 2 ^ 32 * length rs
data-fits [] short = omega arith
data-fits (run ∷ rs) short =
    omega (
      arith,
      data-fits rs (All-tail FitsCount run rs short),
      All-head FitsCount run rs short,
    )

pub leaves-fit : (ls : List (List Run)) → All FitCounts ls
    → data_in (joined ls) ≤ 2 ^ 32 * length (joined ls)
leaves-fit [] short = omega arith
leaves-fit (leaf ∷ ls) short =
    omega (
      arith,
      leaves-fit ls (All-tail FitCounts leaf ls short),
      data-fits leaf (All-head FitCounts leaf ls short),
      data-append leaf (joined ls),
      length-append leaf (joined ls),
    )
