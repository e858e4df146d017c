-- The records of leaves in a row, and the start of each leaf.
use Rattle.std.proofs.Common.{◌≡◌, ℕ, zero, suc, ◌+◌, ◌-◌, ◌<◌, ◌≤◌, List, [], ◌∷◌, ◌++◌, length, get_or, set}
use Rattle.std.proofs.Common.{take, drop, map, sym, ap, ap₂, ◌∙◌, arith, refl, add-one, add-zero}
use Rattle.std.proofs.Common.{zero-add, ⊎_elim}
use Rattle.std.proofs.Common.{append_assoc, length-append, length-drop}
use Rattle.std.specs.Prelude.{insert, remove}
use Rattle.std.specs.List.{All, splice}
use Rattle.std.proofs.lemmas.Bool.{cases_lt}
use Rattle.std.proofs.lemmas.List.Edits.{length-insert, length-remove}
use Rattle.std.proofs.lemmas.List.Elements.{All-tail}
use Rattle.std.proofs.lemmas.List.{get_or_default, length-take-le, length-set, take-append-drop}
use Rattle.std.proofs.lemmas.List.{take_all}
use Rattle.sg_table.specs.Leaves.{LeafTable, joined, leaf_at, count_before, starts_of}
use Rattle.sg_table.specs.Leaves.{IsDirectory, IsPlace}
use Rattle.sg_table.specs.declared.run.Run.{Run}

pub joined-append : (a b : List (List Run)) → joined (a ++ b) ≡ joined a ++ joined b
joined-append [] b = refl
joined-append (leaf ∷ a) b =
    ap (λ x. leaf ++ x) (joined-append a b) ∙ sym (append_assoc leaf (joined a) (joined b))

-- the records before a leaf, the records of the leaf, and the records after it
pub joined-split : (ls : List (List Run)) (k : ℕ) → k < length ls
    → joined ls ≡ joined (take k ls) ++ (leaf_at ls k ++ joined (drop (suc k) ls))
joined-split [] k lt = absurd (omega arith)
joined-split (leaf ∷ ls) zero lt = refl
joined-split (leaf ∷ ls) (suc k) lt =
    ap (λ x. leaf ++ x) (joined-split ls k (omega arith))
    ∙ sym (append_assoc leaf (joined (take k ls)) (leaf_at ls k ++ joined (drop (suc k) ls)))

pub count_before-more : (ls : List (List Run)) (k : ℕ) → k < length ls
    → count_before ls (suc k) ≡ count_before ls k + length (leaf_at ls k)
count_before-more [] k lt = absurd (omega arith)
count_before-more (leaf ∷ ls) zero lt = omega (arith, length-append leaf [])
count_before-more (leaf ∷ ls) (suc k) lt =
    omega (
      arith,
      count_before-more ls k (omega arith),
      length-append leaf (joined (take (suc k) ls)),
      length-append leaf (joined (take k ls)),
    )

-- later leaves have no fewer records before them
pub count_before-rise : (ls : List (List Run)) (i j : ℕ) → i ≤ j → j ≤ length ls
    → count_before ls i ≤ count_before ls j
count_before-rise ls zero j le within = omega arith
count_before-rise [] (suc i) j le within = absurd (omega arith)
count_before-rise (leaf ∷ ls) (suc i) zero le within = absurd (omega arith)
count_before-rise (leaf ∷ ls) (suc i) (suc j) le within =
    omega (
      arith,
      count_before-rise ls i j (omega arith) (omega arith),
      length-append leaf (joined (take i ls)),
      length-append leaf (joined (take j ls)),
    )

pub count_before-all : (ls : List (List Run)) → count_before ls (length ls) ≡ length (joined ls)
count_before-all ls = ap (λ x. length (joined x)) (take_all (length ls) ls (omega arith))

pub length-starts_of : (n : ℕ) (ls : List (List Run)) → length (starts_of n ls) ≡ length ls + 1
length-starts_of n [] = refl
length-starts_of n (leaf ∷ ls) = omega (arith, length-starts_of (n + length leaf) ls)

pub starts_of-at : (n : ℕ) (ls : List (List Run)) (k d : ℕ) → k ≤ length ls
    → get_or (starts_of n ls) k d ≡ n + count_before ls k
starts_of-at n [] zero d le = sym (add-zero n)
starts_of-at n [] (suc k) d le = absurd (omega arith)
starts_of-at n (leaf ∷ ls) zero d le = sym (add-zero n)
starts_of-at n (leaf ∷ ls) (suc k) d le =
    omega (
      arith,
      starts_of-at (n + length leaf) ls k d (omega arith),
      length-append leaf (joined (take k ls)),
    )

-- other numbers of records before the leaves
pub starts_of-shift : (ls : List (List Run)) (n less more : ℕ)
    → starts_of (n + more) ls ≡ map (λ s. s - less + more) (starts_of (n + less) ls)
starts_of-shift [] n less more =
    let e : n + more ≡ n + less - less + more = omega arith in ap (λ x. x ∷ []) e
starts_of-shift (leaf ∷ ls) n less more =
    let e : n + more ≡ n + less - less + more = omega arith in
    let more' : n + more + length leaf ≡ n + length leaf + more = omega arith in
    let less' : n + less + length leaf ≡ n + length leaf + less = omega arith in
    ap₂ (λ x y. x ∷ y) e (ap (λ k. starts_of k ls) more' ∙ starts_of-shift ls (n + length leaf) less more
    ∙ ap (λ k. map (λ s. s - less + more) (starts_of k ls)) (sym less'))

-- a leaf gets other records
pub starts_of-set : (ls : List (List Run)) (n k : ℕ) (new : List Run) → k < length ls
    → starts_of n (set ls k new) ≡ take (suc k) (starts_of n ls)
    ++ map (λ s. s - length (leaf_at ls k) + length new) (drop (suc k) (starts_of n ls))
starts_of-set [] n k new lt = absurd (omega arith)
starts_of-set (leaf ∷ ls) n zero new lt =
    ap (λ x. n ∷ x) (starts_of-shift ls n (length leaf) (length new))
starts_of-set (leaf ∷ ls) n (suc k) new lt =
    ap (λ x. n ∷ x) (starts_of-set ls (n + length leaf) k new (omega arith))

-- a leaf without records is added
pub starts_of-insert : (ls : List (List Run)) (n k : ℕ) → k ≤ length ls
    → starts_of n (insert ls k []) ≡ insert (starts_of n ls) k (get_or (starts_of n ls) k 0)
starts_of-insert [] n zero le = ap (λ x. n ∷ x ∷ []) (add-zero n)
starts_of-insert [] n (suc k) le = absurd (omega arith)
starts_of-insert (leaf ∷ ls) n zero le = ap (λ x. n ∷ starts_of x (leaf ∷ ls)) (add-zero n)
starts_of-insert (leaf ∷ ls) n (suc k) le =
    ap (λ x. n ∷ x) (starts_of-insert ls (n + length leaf) k (omega arith))

-- a leaf is removed
pub starts_of-remove : (ls : List (List Run)) (n k : ℕ) → k < length ls
    → starts_of n (remove ls k) ≡ remove (take (suc k) (starts_of n ls)
    ++ map (λ s. s - length (leaf_at ls k) + 0) (drop (suc k) (starts_of n ls))) k
starts_of-remove [] n k lt = absurd (omega arith)
starts_of-remove (leaf ∷ ls) n zero lt =
    ap (λ x. starts_of x ls) (sym (add-zero n)) ∙ starts_of-shift ls n (length leaf) 0
starts_of-remove (leaf ∷ ls) n (suc k) lt =
    ap (λ x. n ∷ x) (starts_of-remove ls (n + length leaf) k (omega arith))

-- the starts after a leaf are between its length and the number of records
pub starts_of-bounds : (ls : List (List Run)) (n : ℕ)
    → All (λ s. (n ≤ s) × (s ≤ n + length (joined ls))) (starts_of n ls)
starts_of-bounds [] n zero d lt = (omega arith, omega arith)
starts_of-bounds [] n (suc j) d lt = absurd (omega arith)
starts_of-bounds (leaf ∷ ls) n zero d lt = (omega arith, omega arith)
starts_of-bounds (leaf ∷ ls) n (suc j) d lt =
    let rest = starts_of-bounds ls (n + length leaf) j d (omega arith) in
    let whole = length-append leaf (joined ls) in
    (omega (arith, rest.0), omega (arith, rest.1))

pub starts_of-behind : (ls : List (List Run)) (n k : ℕ) → k < length ls
    → All (λ s. (length (leaf_at ls k) ≤ s) × (s ≤ n + length (joined ls))) (drop (suc k) (starts_of n ls))
starts_of-behind [] n k lt = absurd (omega arith)
starts_of-behind (leaf ∷ ls) n zero lt = λ j d in'.
    let rest = starts_of-bounds ls (n + length leaf) j d in' in
    let whole = length-append leaf (joined ls) in
    (omega (arith, rest.0), omega (arith, rest.1))
starts_of-behind (leaf ∷ ls) n (suc k) lt = λ j d in'.
    let rest = starts_of-behind ls (n + length leaf) k (omega arith) j d in' in
    let whole = length-append leaf (joined ls) in
    (rest.0, omega (arith, rest.1))

pub directory-of : (leaves : List (List Run)) (starts : List ℕ) → 1 ≤ length leaves
    → starts ≡ starts_of 0 leaves → IsDirectory leaves starts
directory-of leaves starts some e =
    record { not_empty = some; count = ap length e ∙ length-starts_of 0 leaves; each = e }

-- the directory has the number of records before each leaf
pub directory-at : (leaves : List (List Run)) (starts : List ℕ) (k d : ℕ) → IsDirectory leaves starts
    → k < length starts → get_or starts k d ≡ count_before leaves k
directory-at leaves starts k d dir lt =
    ap (λ x. get_or x k d) dir.each
    ∙ starts_of-at 0 leaves k d (omega (arith, dir.count))
    ∙ zero-add (count_before leaves k)

pub directory-last : (leaves : List (List Run)) (starts : List ℕ) (k d : ℕ) → IsDirectory leaves starts
    → k ≡ length starts - 1 → get_or starts k d ≡ length (joined leaves)
directory-last leaves starts k d dir e =
    let last : k ≡ length leaves = omega (arith, dir.count) in
    directory-at leaves starts k d dir (omega (arith, dir.count))
    ∙ ap (count_before leaves) last ∙ count_before-all leaves

-- the result of a read of the directory
pub start-read : (leaves : List (List Run)) (starts : List ℕ) (ls : List (List Run)) (k x : ℕ)
    → IsDirectory leaves starts → leaves ≡ ls → k ≤ length ls
    → x ≡ get_or starts k x → x ≡ count_before ls k
start-read leaves starts ls k x dir same le read =
    read ∙ directory-at leaves starts k x dir
    (omega (arith, dir.count, ap length same))
    ∙ ap (λ l. count_before l k) same

-- a leaf with records after it is not the last one
pub not-last : (ls : List (List Run)) (k : ℕ) → k ≤ length ls → count_before ls k < length (joined ls)
    → k < length ls
not-last ls k le lt =
    ⊎_elim (λ h. h) (λ (h : length ls ≤ k).
    let all : k ≡ length ls = omega arith in
    absurd (omega (arith, lt, ap (count_before ls) all, count_before-all ls)))
    (cases_lt k (length ls))

-- the place of an index in a leaf
pub placed : (ls : List (List Run)) (index leaf start : ℕ) → leaf < length ls
    → start ≡ count_before ls leaf → start ≤ index → index ≤ count_before ls (leaf + 1)
    → IsPlace ls index (record { leaf = leaf; offset = index - start })
placed ls index leaf start lt e le end =
    let more = count_before-more ls leaf lt in
    let next : count_before ls (leaf + 1) ≡ count_before ls (suc leaf) =
    ap (count_before ls) (add-one leaf) in
    record { leaf = lt; offset = omega arith; sum = omega arith }

-- as many are added as are taken off
pub shift-same : (xs : List ℕ) (n : ℕ) → All (λ s. n ≤ s) xs → xs ≡ map (λ s. s - n + n) xs
shift-same [] n all = refl
shift-same (x ∷ xs) n all =
    let le : n ≤ x = all 0 0 (omega arith) in
    let same : x ≡ x - n + n = omega arith in
    ap₂ (λ y z. y ∷ z) same (shift-same xs n (All-tail (λ s. n ≤ s) x xs all))

pub shift-none : (xs : List ℕ) (from n m : ℕ) → n ≡ m → All (λ s. n ≤ s) (drop from xs)
    → xs ≡ take from xs ++ map (λ s. s - n + m) (drop from xs)
shift-none xs from n m e all =
    sym (take-append-drop from xs) ∙ ap (λ x. take from xs ++ x) (shift-same (drop from xs) n all
    ∙ ap (λ k. map (λ s. s - n + k) (drop from xs)) e)

-- the directory's numbers after a leaf
pub directory-behind : (leaves : List (List Run)) (starts : List ℕ) (ls : List (List Run)) (k : ℕ)
    → IsDirectory leaves starts → leaves ≡ ls → k < length ls
    → All (λ s. (length (leaf_at ls k) ≤ s) × (s ≤ length (joined ls))) (drop (k + 1) starts)
directory-behind leaves starts ls k dir same lt = λ j d in'.
    let whole : starts ≡ starts_of 0 ls = dir.each ∙ ap (starts_of 0) same in
    let part : drop (k + 1) starts ≡ drop (suc k) (starts_of 0 ls) =
    ap (λ n. drop n starts) (add-one k) ∙ ap (drop (suc k)) whole in
    let within : j < length (drop (suc k) (starts_of 0 ls)) = omega (arith, in', ap length part) in
    let bounds = starts_of-behind ls 0 k lt j d within in
    let value : get_or (drop (k + 1) starts) j d ≡ get_or (drop (suc k) (starts_of 0 ls)) j d =
    ap (λ x. get_or x j d) part in
    (omega (arith, bounds.0, value), omega (arith, bounds.1, value))

-- a leaf gets other records
pub directory-set : (leaves : List (List Run)) (starts : List ℕ) (k : ℕ) (new : List Run)
    (less more : ℕ) (after : List ℕ) → IsDirectory leaves starts → k < length leaves
    → less ≡ length (leaf_at leaves k) → more ≡ length new
    → after ≡ take (k + 1) starts ++ map (λ s. s - less + more) (drop (k + 1) starts)
    → IsDirectory (set leaves k new) after
directory-set leaves starts k new less more after dir lt le me e =
    directory-of (set leaves k new) after (omega (arith, length-set leaves k new))
    (e ∙ rw (le, me, add-one k, dir.each) (sym (starts_of-set leaves 0 k new lt)))

pub same-table : (a b : List (List Run)) (n m i j : ℕ) → a ≡ b → n ≡ m → i ≡ j
    → let t : LeafTable = record { leaves = a; capacity = n; moved = i } in
    let u : LeafTable = record { leaves = b; capacity = m; moved = j } in t ≡ u
same-table a b n m i j e f g =
    ap (λ x. record { leaves = x; capacity = n; moved = i }) e
    ∙ ap (λ x. record { leaves = b; capacity = x; moved = i }) f
    ∙ ap (λ x. record { leaves = b; capacity = m; moved = x }) g

pub length-splice : (old : List Run) (from to : ℕ) (runs : List Run) → from ≤ to → to ≤ length old
    → length (splice old from to runs) ≡ from + (length old - to) + length runs
length-splice old from to runs le within =
    let front = length-take-le from old (omega arith) in
    omega (
      arith,
      length-append (take from old) (runs ++ drop to old),
      length-append runs (drop to old),
      length-drop to old,
    )

-- a leaf without records is added
pub directory-insert : (leaves : List (List Run)) (starts : List ℕ) (k start : ℕ) (starts' : List ℕ)
    → IsDirectory leaves starts → k ≤ length leaves
    → start ≡ get_or starts k start → starts' ≡ insert starts k start
    → IsDirectory (insert leaves k []) starts'
directory-insert leaves starts k start starts' dir le read e =
    let within : k < length starts = omega (arith, dir.count) in
    let value : start ≡ get_or starts k 0 = read ∙ get_or_default starts k start 0 within in
    directory-of (insert leaves k []) starts' (omega (arith, length-insert leaves k [] le))
    (e ∙ ap (insert starts k) value ∙ ap (λ s. insert s k (get_or s k 0)) dir.each
    ∙ sym (starts_of-insert leaves 0 k le))

-- a leaf is removed
pub directory-remove : (leaves : List (List Run)) (starts : List ℕ) (k less : ℕ) (starts' : List ℕ)
    → IsDirectory leaves starts → k < length leaves → 1 < length leaves → less ≡ length (leaf_at leaves k)
    → starts' ≡ remove (take (k + 1) starts ++ map (λ s. s - less + 0) (drop (k + 1) starts)) k
    → IsDirectory (remove leaves k) starts'
directory-remove leaves starts k less starts' dir lt others le e =
    directory-of (remove leaves k) starts' (omega (arith, length-remove leaves k lt))
    (e ∙ rw (le, add-one k, dir.each) (sym (starts_of-remove leaves 0 k lt)))

-- the number of records when a leaf gets others
pub count-set : (ls : List (List Run)) (k : ℕ) (new : List Run) → k < length ls
    → length (joined (set ls k new)) + length (leaf_at ls k) ≡ length (joined ls) + length new
count-set [] k new lt = absurd (omega arith)
count-set (leaf ∷ ls) zero new lt =
    omega (arith, length-append new (joined ls), length-append leaf (joined ls))
count-set (leaf ∷ ls) (suc k) new lt =
    omega (
      arith,
      count-set ls k new (omega arith),
      length-append leaf (joined (set ls k new)),
      length-append leaf (joined ls),
    )

-- the directory of one leaf without records
pub directory-new : (leaves : List (List Run)) (starts : List ℕ) → leaves ≡ [] ∷ [] → starts ≡ 0 ∷ 0 ∷ []
    → IsDirectory leaves starts
directory-new leaves starts one e =
    directory-of leaves starts (omega (arith, ap length one)) (e ∙ ap (starts_of 0) (sym one))
