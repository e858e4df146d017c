-- Records are removed up to the end of a leaf.
use Rattle.std.proofs.Common.{◌≡◌, ℕ, ◌+◌, ◌<◌, List, [], ◌∷◌, ◌++◌, length, set}
use Rattle.std.proofs.Common.{take, drop, sym, ap, ap₂, ◌∙◌, arith, append_assoc}
use Rattle.std.proofs.Common.{length-append}
use Rattle.std.proofs.lemmas.List.{append-nil, drop_all, drop-set-lt, drop_at, get_or-take}
use Rattle.std.proofs.lemmas.List.{get_or_append_left, length-set}
use Rattle.std.proofs.lemmas.List.{length-take-le, take-append-drop, take-append-le, take-set}
use Rattle.std.proofs.lemmas.List.{take-take, take_more_set}
use Rattle.std.specs.List.{splice}
use Rattle.sg_table.specs.Leaves.{LeafTable, IsAppended, IsCut, joined, leaf_at, replaced}
use Rattle.sg_table.specs.declared.leaves.Place.{Place}
use Rattle.sg_table.specs.declared.run.Run.{Run}
use Rattle.sg_table.proofs.AppendLemmas.{appended-all}
use Rattle.sg_table.proofs.LeavesLemmas.{joined-append}

-- the leaves after one up to another are gone
abbrev pub without : List (List Run) → (k m : ℕ) → List (List Run)
without ls k m = take (k + 1) ls ++ drop m ls

pub leaf-without : (ls : List (List Run)) (k m : ℕ) → k < length ls
    → leaf_at (without ls k m) k ≡ leaf_at ls k
leaf-without ls k m lt =
    let size = length-take-le (k + 1) ls (omega arith) in
    get_or_append_left (take (k + 1) ls) (drop m ls) [] k (omega arith)
    ∙ get_or-take (k + 1) ls k [] (omega arith)

pub within-without : (ls : List (List Run)) (k m : ℕ) (new : List Run) → k < length ls
    → k < length (set (without ls k m) k new)
within-without ls k m new lt =
    omega (
      arith,
      length-set (without ls k m) k new,
      length-append (take (k + 1) ls) (drop m ls),
      length-take-le (k + 1) ls (omega arith),
    )

pub before-without : (ls : List (List Run)) (k m : ℕ) (new : List Run) → k < length ls
    → take k (set (without ls k m) k new) ≡ take k ls
before-without ls k m new lt =
    let size = length-take-le (k + 1) ls (omega arith) in
    take-set (without ls k m) k new ∙ take-append-le k (take (k + 1) ls) (drop m ls) (omega arith)
    ∙ take-take k (k + 1) ls (omega arith)

pub behind-without : (ls : List (List Run)) (k m : ℕ) (new : List Run) → k < length ls
    → drop (k + 1) (set (without ls k m) k new) ≡ drop m ls
behind-without ls k m new lt =
    drop-set-lt (k + 1) (without ls k m) k new (omega arith)
    ∙ drop_at (take (k + 1) ls) (drop m ls) (k + 1) (length-take-le (k + 1) ls (omega arith))

pub front-without : (ls : List (List Run)) (k m : ℕ) (new : List Run) → k < length ls
    → joined (take (k + 1) (set (without ls k m) k new)) ≡ joined (take k ls) ++ new
front-without ls k m new lt =
    let size = length-take-le (k + 1) ls (omega arith) in
    let all = length-append (take (k + 1) ls) (drop m ls) in
    let before : take k (without ls k m) ≡ take k ls =
    take-append-le k (take (k + 1) ls) (drop m ls) (omega arith) ∙ take-take k (k + 1) ls (omega arith) in
    ap joined (take_more_set (without ls k m) k new (omega arith))
    ∙ joined-append (take k (without ls k m)) (new ∷ [])
    ∙ ap₂ (λ x y. joined x ++ y) before (append-nil new)

-- a leaf is cut off
pub end-cut : (old : List Run) (from n : ℕ) → n ≡ length old → splice old from n [] ≡ take from old
end-cut old from n e =
    ap (λ x. take from old ++ x) (drop_all n old (omega arith)) ∙ append-nil (take from old)

pub cut-joined : (t u : LeafTable) (from to : Place) → IsCut t u from to
    → joined u.leaves ≡ (joined (take from.leaf t.leaves) ++ take from.offset (leaf_at t.leaves from.leaf))
    ++ joined (drop (to.leaf + 1) t.leaves)
cut-joined t u from to cut =
    ap joined (sym (take-append-drop (from.leaf + 1) u.leaves))
    ∙ joined-append (take (from.leaf + 1) u.leaves) (drop (from.leaf + 1) u.leaves)
    ∙ ap₂ (λ x y. x ++ y) cut.front (ap joined cut.behind)

-- the records that are left, the new ones and the records after them
pub cut-count : (t u : LeafTable) (from to : Place) (runs rest : List Run) → IsCut t u from to
    → rest ≡ drop to.offset (leaf_at t.leaves to.leaf)
    → length (joined u.leaves) + length runs + length rest ≡ length (replaced t.leaves from to runs)
cut-count t u from to runs rest cut e =
    let before : List Run = joined (take from.leaf t.leaves) in
    let front : List Run = take from.offset (leaf_at t.leaves from.leaf) in
    let end : List Run = drop to.offset (leaf_at t.leaves to.leaf) in
    let after : List Run = joined (drop (to.leaf + 1) t.leaves) in
    omega (
      arith,
      ap length (cut-joined t u from to cut),
      ap length e,
      length-append (before ++ front) after,
      length-append before front,
      length-append before (front ++ (runs ++ (end ++ after))),
      length-append front (runs ++ (end ++ after)),
      length-append runs (end ++ after),
      length-append end after,
    )

-- the records after all of them are appended
pub cut-appended : (t u v : LeafTable) (from to : Place) (last : ℕ) (runs rest : List Run) → IsCut t u from to
    → rest ≡ drop to.offset (leaf_at t.leaves to.leaf) → IsAppended u v from.leaf last (runs ++ rest)
    → joined v.leaves ≡ replaced t.leaves from to runs
cut-appended t u v from to last runs rest cut e a =
    let before : List Run = joined (take from.leaf t.leaves) in
    let front : List Run = take from.offset (leaf_at t.leaves from.leaf) in
    let after : List Run = joined (drop (to.leaf + 1) t.leaves) in
    let order : ((before ++ front) ++ (runs ++ rest)) ++ after ≡ before ++ (front ++ (runs ++ (rest ++
    after))) =
    simp append_assoc in
    appended-all u v from.leaf last (runs ++ rest) a
    ∙ ap₂ (λ x y. (x ++ (runs ++ rest)) ++ y) cut.front (ap joined cut.behind) ∙ order
    ∙ ap (λ x. before ++ (front ++ (runs ++ (x ++ after)))) e
