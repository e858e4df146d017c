-- Records are appended to a leaf, and to new leaves after it.
use Rattle.std.proofs.Common.{◌≡◌, ℕ, zero, suc, ◌+◌, ◌-◌, ◌<◌, ◌≤◌, List, [], ◌∷◌, ◌++◌, length, set}
use Rattle.std.proofs.Common.{take, drop, sym, ap, ap₂, ◌∙◌, arith, refl, append_assoc}
use Rattle.std.proofs.Common.{length-append}
use Rattle.std.proofs.lemmas.List.{append-nil, drop_all, drop-drop, drop-set-lt, drop_at}
use Rattle.std.proofs.lemmas.List.{length-set, length-take-le}
use Rattle.std.proofs.lemmas.List.{drop-take, take-append-drop, take-set, take-take, take_all}
use Rattle.std.proofs.lemmas.List.{take_at, take_more}
use Rattle.std.proofs.lemmas.List.{take_more_set}
use Rattle.std.proofs.lemmas.List.Edits.{length-insert, remove-append_right}
use Rattle.std.proofs.lemmas.List.Elements.{All-append, All-same}
use Rattle.std.specs.Prelude.{insert, remove}
use Rattle.std.specs.List.{All, splice}
use Rattle.sg_table.specs.Leaves.{LeafTable, AreFilledBut, IsAppended, IsFilled, joined, leaf_at}
use Rattle.sg_table.specs.Leaves.{min_leaf}
use Rattle.sg_table.specs.declared.run.Run.{Run}
use Rattle.sg_table.proofs.BalanceLemmas.{filled-one}
use Rattle.sg_table.proofs.LeavesLemmas.{joined-append}

-- fewer leaves have no more records
pub count-drop : (n : ℕ) (ls : List (List Run)) → length (joined (drop n ls)) ≤ length (joined ls)
count-drop zero ls = omega arith
count-drop (suc n) [] = omega arith
count-drop (suc n) (leaf ∷ ls) = omega (arith, count-drop n ls, length-append leaf (joined ls))

pub count-without : (ls : List (List Run)) (a b : ℕ) → a ≤ b
    → length (joined (take a ls ++ drop b ls)) ≤ length (joined ls)
count-without ls a b le =
    let rest : drop (b - a) (drop a ls) ≡ drop b ls =
    drop-drop (b - a) a ls ∙ (let e : a + (b - a) ≡ b = omega arith in ap (λ n. drop n ls) e) in
    let both = joined-append (take a ls) (drop b ls) in
    let whole = ap joined (take-append-drop a ls) in
    omega (
      arith,
      ap length both,
      ap length whole,
      ap length (joined-append (take a ls) (drop a ls)),
      length-append (joined (take a ls)) (joined (drop b ls)),
      length-append (joined (take a ls)) (joined (drop a ls)),
      count-drop (b - a) (drop a ls),
      ap (λ x. length (joined x)) rest,
    )

-- one more leaf is removed after another
pub removed-behind : (ls : List (List Run)) (n m : ℕ) → n ≤ length ls
    → remove (take n ls ++ drop m ls) n ≡ take n ls ++ drop (m + 1) ls
removed-behind ls n m le =
    let none : n - n ≡ 0 = omega arith in
    remove-append_right (take n ls) (drop m ls) n n (length-take-le n ls le) (omega arith)
    ∙ ap (λ i. take n ls ++ remove (drop m ls) i) none ∙ ap (λ x. take n ls ++ x) (drop-drop 1 m ls)

pub filled-more : (ls : List (List Run)) (k : ℕ) → k < length ls → All IsFilled (take k ls)
    → min_leaf ≤ length (leaf_at ls k) → All IsFilled (take (k + 1) ls)
filled-more ls k lt before le =
    All-same IsFilled (take (k + 1) ls) (take k ls ++ leaf_at ls k ∷ []) (take_more ls k [] lt)
    (All-append IsFilled (take k ls) (leaf_at ls k ∷ []) before (filled-one (leaf_at ls k) le))

-- a new leaf comes after one that is full
pub opened-behind : (t u : LeafTable) (k : ℕ) → k < length t.leaves → AreFilledBut t.leaves k
    → min_leaf ≤ length (leaf_at t.leaves k) → u ≡ record t { leaves = insert t.leaves (k + 1) [] }
    → IsAppended t u k (k + 1) []
opened-behind t u k lt but le e =
    let ls : List (List Run) = t.leaves in
    let new : List (List Run) = insert ls (k + 1) [] in
    let same : u.leaves ≡ new = ap (λ (x : LeafTable). x.leaves) e in
    let size : length (take (k + 1) ls) ≡ k + 1 = length-take-le (k + 1) ls (omega arith) in
    let before : take (k + 1) u.leaves ≡ take (k + 1) ls =
    ap (take (k + 1)) same ∙ take_at (take (k + 1) ls) ([] ∷ drop (k + 1) ls) (k + 1) size in
    let order : new ≡ (take (k + 1) ls ++ [] ∷ []) ++ drop (k + 1) ls =
    sym (append_assoc (take (k + 1) ls) ([] ∷ []) (drop (k + 1) ls)) in
    let longer : length (take (k + 1) ls ++ [] ∷ []) ≡ k + 1 + 1 =
    omega (arith, length-append (take (k + 1) ls) ([] ∷ []), size) in
    let front : take (k + 1 + 1) u.leaves ≡ take (k + 1) ls ++ [] ∷ [] =
    ap (take (k + 1 + 1)) (same ∙ order)
    ∙ take_at (take (k + 1) ls ++ [] ∷ []) (drop (k + 1) ls) (k + 1 + 1) longer in
    let behind : drop (k + 1 + 1) u.leaves ≡ drop (k + 1) ls =
    ap (drop (k + 1 + 1)) (same ∙ order)
    ∙ drop_at (take (k + 1) ls ++ [] ∷ []) (drop (k + 1) ls) (k + 1 + 1) longer in
    record {
      within = omega (arith, ap length same, length-insert ls (k + 1) [] (omega arith));
      filled = record {
        before = All-same IsFilled (take (k + 1) u.leaves) (take (k + 1) ls) before
            (filled-more ls k lt but.before le);
        after = All-same IsFilled (drop (k + 1 + 1) u.leaves) (drop (k + 1) ls) behind but.after;
      };
      front = ap joined front ∙ joined-append (take (k + 1) ls) ([] ∷ []);
      behind = behind;
      capacity = ap (λ (x : LeafTable). x.capacity) e;
      moves = omega (arith, ap (λ (x : LeafTable). x.moved) e);
    }

-- nothing is appended
pub none-appended : (t : LeafTable) (k : ℕ) → k < length t.leaves → AreFilledBut t.leaves k
    → IsAppended t t k k []
none-appended t k lt but =
    record {
      within = lt;
      filled = but;
      front = sym (append-nil (joined (take (k + 1) t.leaves)));
      behind = refl;
      capacity = refl;
      moves = omega arith;
    }

-- records are appended to a leaf that has room for them
pub part-appended : (t u : LeafTable) (k : ℕ) (part new : List Run) → k < length t.leaves
    → AreFilledBut t.leaves k → new ≡ leaf_at t.leaves k ++ part → u.leaves ≡ set t.leaves k new
    → u.capacity ≡ t.capacity → u.moved ≡ t.moved + length part → IsAppended t u k k part
part-appended t u k part new lt but is same capacity moves =
    let ls : List (List Run) = t.leaves in
    let before : take k u.leaves ≡ take k ls = ap (take k) same ∙ take-set ls k new in
    let behind : drop (k + 1) u.leaves ≡ drop (k + 1) ls =
    ap (drop (k + 1)) same ∙ drop-set-lt (k + 1) ls k new (omega arith) in
    let front : take (k + 1) u.leaves ≡ take k ls ++ new ∷ [] =
    ap (take (k + 1)) same ∙ take_more_set ls k new lt in
    let old : joined (take (k + 1) ls) ≡ joined (take k ls) ++ leaf_at ls k =
    ap joined (take_more ls k [] lt) ∙ joined-append (take k ls) (leaf_at ls k ∷ [])
    ∙ ap (λ x. joined (take k ls) ++ x) (append-nil (leaf_at ls k)) in
    record {
      within = omega (arith, ap length same, length-set ls k new);
      filled = record {
        before = All-same IsFilled (take k u.leaves) (take k ls) before but.before;
        after = All-same IsFilled (drop (k + 1) u.leaves) (drop (k + 1) ls) behind but.after;
      };
      front = ap joined front ∙ joined-append (take k ls) (new ∷ [])
          ∙ ap (λ x. joined (take k ls) ++ x) (append-nil new ∙ is)
          ∙ sym (append_assoc (joined (take k ls)) (leaf_at ls k) part)
          ∙ ap (λ x. x ++ part) (sym old);
      behind = behind;
      capacity = capacity;
      moves = moves;
    }

-- records are appended after others
pub appended-more : (t u v : LeafTable) (k l m : ℕ) (runs more : List Run) → IsAppended t u k l runs
    → IsAppended u v l m more → IsAppended t v k m (runs ++ more)
appended-more t u v k l m runs more a b =
    record {
      within = b.within;
      filled = b.filled;
      front = b.front ∙ ap (λ x. x ++ more) a.front ∙ append_assoc (joined (take (k + 1) t.leaves)) runs more;
      behind = b.behind ∙ a.behind;
      capacity = b.capacity ∙ a.capacity;
      moves = omega (arith, a.moves, b.moves, length-append runs more);
    }

-- all records, with the records after the leaves in work
pub appended-all : (t u : LeafTable) (k last : ℕ) (runs : List Run) → IsAppended t u k last runs
    → joined u.leaves ≡ (joined (take (k + 1) t.leaves) ++ runs) ++ joined (drop (k + 1) t.leaves)
appended-all t u k last runs a =
    ap joined (sym (take-append-drop (last + 1) u.leaves))
    ∙ joined-append (take (last + 1) u.leaves) (drop (last + 1) u.leaves)
    ∙ ap₂ (λ x y. x ++ y) a.front (ap joined a.behind)

pub appended-count : (t u : LeafTable) (k last : ℕ) (runs : List Run) → IsAppended t u k last runs
    → length (joined u.leaves) ≡ length (joined t.leaves) + length runs
appended-count t u k last runs a =
    let whole : joined t.leaves ≡ joined (take (k + 1) t.leaves) ++ joined (drop (k + 1) t.leaves) =
    ap joined (sym (take-append-drop (k + 1) t.leaves))
    ∙ joined-append (take (k + 1) t.leaves) (drop (k + 1) t.leaves) in
    omega (
      arith,
      ap length whole,
      ap length (appended-all t u k last runs a),
      length-append (joined (take (k + 1) t.leaves) ++ runs) (joined (drop (k + 1) t.leaves)),
      length-append (joined (take (k + 1) t.leaves)) runs,
      length-append (joined (take (k + 1) t.leaves)) (joined (drop (k + 1) t.leaves)),
    )

-- the records up to one index are the records up to another, and the records between
pub take-part : (xs : List Run) (n m : ℕ) → n ≤ m → m ≤ length xs
    → take m xs ≡ take n xs ++ take (m - n) (drop n xs)
take-part xs n m le within =
    let whole : m ≡ n + (m - n) = omega arith in
    let rest : drop n (take m xs) ≡ take (m - n) (drop n xs) =
    ap (λ k. drop n (take k xs)) whole ∙ drop-take n (m - n) xs in
    sym (take-append-drop n (take m xs)) ∙ ap₂ (λ x y. x ++ y) (take-take n m xs le) rest

-- records are put at the end of a leaf
pub end-spliced : (old part : List Run) (n : ℕ) → n ≡ length old
    → splice old n n part ≡ old ++ part
end-spliced old part n e =
    ap₂ (λ x y. x ++ (part ++ y)) (take_all n old (omega arith)) (drop_all n old (omega arith))
    ∙ ap (λ x. old ++ x) (append-nil part)
