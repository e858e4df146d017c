-- A search of the leaves by their first records, and then of one leaf.
use Rattle.std.proofs.Common.{◌≡◌, ℕ, zero, suc, ◌+◌, ◌-◌, ◌*◌, ◌^◌, ◌<◌, ◌≤◌, List, [], ◌∷◌, length}
use Rattle.std.proofs.Common.{set, drop, sym, ap, ◌∙◌, arith, inl, inr, ⊎_elim, refl}
use Rattle.std.proofs.Common.{length-drop, length-append}
use Rattle.std.proofs.Math.Pow.{pow_mono}
use Rattle.std.proofs.lemmas.Bool.{cases_lt}
use Rattle.std.proofs.lemmas.Grind.{get_or_after_one}
use Rattle.std.proofs.lemmas.List.{get_or-map, length-map, map-set}
use Rattle.std.proofs.lemmas.List.Elements.{All-cons, All-head, All-tail}
use Rattle.std.specs.List.{All}
use Rattle.std.specs.Prelude.{insert, remove}
use Rattle.sg_table.specs.Leaves.{AreBalanced, FitsLeaf, addresses, count_before, first_addresses, joined}
use Rattle.sg_table.specs.Leaves.{leaf_at, max_leaf, min_leaf}
use Rattle.sg_table.specs.Records.{start_of, IsSorted, IsLowerBound}
use Rattle.sg_table.specs.Search.{AreRising, IsFirstFrom, CostsHalving, CostsSearch, address_at}
use Rattle.sg_table.specs.declared.run.Run.{Run}
use Rattle.sg_table.proofs.BalanceLemmas.{filled-count}
use Rattle.sg_table.proofs.HalvingLemmas.{search-leaves, search-one}
use Rattle.sg_table.proofs.LeafListLemmas.{map-insert, map-remove}
use Rattle.sg_table.proofs.LeavesLemmas.{count_before-all, count_before-more, count_before-rise}
use Rattle.sg_table.proofs.PlaceLemmas.{record-place}
use Rattle.sg_table.proofs.RecordLemmas.{no_run, start_of-at}

-- a fact of each element, with one more or one less
pub all-insert : {X : Type 0} (P : X → Type 0) (xs : List X) (k : ℕ) (x : X) → k ≤ length xs → P x
    → All P xs → All P (insert xs k x)
all-insert P xs zero x le p all = All-cons P x xs p all
all-insert P [] (suc k) x le p all = absurd (omega arith)
all-insert P (y ∷ xs) (suc k) x le p all =
    All-cons P y (insert xs k x) (All-head P y xs all)
    (all-insert P xs k x (omega arith) p (All-tail P y xs all))

pub all-remove : {X : Type 0} (P : X → Type 0) (xs : List X) (k : ℕ) → All P xs → All P (remove xs k)
all-remove P [] zero all = all
all-remove P [] (suc k) all = all
all-remove P (y ∷ xs) zero all = All-tail P y xs all
all-remove P (y ∷ xs) (suc k) all =
    All-cons P y (remove xs k) (All-head P y xs all) (all-remove P xs k (All-tail P y xs all))

-- the first addresses with another leaf, with one more and with one less
pub firsts-set : (ls new : List (List Run)) (k : ℕ) (leaf : List Run) (start : ℕ) → new ≡ set ls k leaf
    → start ≡ start_of leaf 0 → set (first_addresses ls) k start ≡ first_addresses new
firsts-set ls new k leaf start is first =
    ap (set (first_addresses ls) k) first ∙ sym (map-set (λ (l : List Run). start_of l 0) ls k leaf)
    ∙ ap first_addresses (sym is)

pub firsts-insert : (ls new : List (List Run)) (k : ℕ) → new ≡ insert ls k []
    → insert (first_addresses ls) k 0 ≡ first_addresses new
firsts-insert ls new k is =
    sym (map-insert (λ (l : List Run). start_of l 0) ls k []) ∙ ap first_addresses (sym is)

pub firsts-remove : (ls new : List (List Run)) (k : ℕ) → new ≡ remove ls k
    → remove (first_addresses ls) k ≡ first_addresses new
firsts-remove ls new k is =
    sym (map-remove (λ (l : List Run). start_of l 0) ls k) ∙ ap first_addresses (sym is)

-- leaves have no more records than fit
fits-count : (ls : List (List Run)) → All FitsLeaf ls → length (joined ls) ≤ max_leaf * length ls
fits-count [] all = omega arith
fits-count (leaf ∷ ls) all =
    let first : length leaf ≤ max_leaf = All-head FitsLeaf leaf ls all in
    let rest = fits-count ls (All-tail FitsLeaf leaf ls all) in
    omega (arith, length-append leaf (joined ls))

addresses-at : (rs : List Run) (i : ℕ) → i < length rs → address_at (addresses rs) i ≡ start_of rs i
addresses-at rs i lt = get_or-map (λ (run : Run). run.start) rs i no_run 0 lt ∙ start_of-at rs i

-- the address of a record of a leaf
start_of-leaf : (ls : List (List Run)) (k i j : ℕ) → k < length ls → i < length (leaf_at ls k)
    → j ≡ count_before ls k + i → start_of (leaf_at ls k) i ≡ start_of (joined ls) j
start_of-leaf ls k i j lt inside e =
    sym (start_of-at (leaf_at ls k) i)
    ∙ ap (λ (r : Run). r.start) (sym (record-place ls j (record { leaf = k; offset = i }) no_run
    (record { leaf = lt; offset = omega arith; sum = sym e }) inside))
    ∙ start_of-at (joined ls) j

module _ (ls : List (List Run)) (sorted : IsSorted (joined ls)) (balanced : AreBalanced ls)
    (some_leaf : 1 ≤ length ls) where
  filled : 1 < length ls → All (λ leaf. min_leaf ≤ length leaf) ls
  filled many = ⊎_elim (λ (one : length ls ≡ 1). absurd (omega arith)) (λ all. all) balanced

  -- the first records of two leaves
  firsts-rise : (i j : ℕ) → i < j → j < length ls → (count_before ls i < count_before ls j)
      × (count_before ls j < length (joined ls))
  firsts-rise i j lt end =
      let some : min_leaf ≤ length (leaf_at ls i) = filled (omega arith) i [] (omega arith) in
      let last : min_leaf ≤ length (leaf_at ls j) = filled (omega arith) j [] end in (
        omega (
          arith,
          count_before-more ls i (omega arith),
          count_before-rise ls (suc i) j (omega arith) (omega arith),
        ),
        omega (
          arith,
          count_before-more ls j end,
          count_before-rise ls (suc j) (length ls) (omega arith) (omega arith),
          count_before-all ls,
        ),
      )

  -- the address of the first record of a leaf that is not the first one
  first-at : (i k : ℕ) → k ≡ 1 + i → k < length ls
      → address_at (drop 1 (first_addresses ls)) i ≡ start_of (joined ls) (count_before ls k)
  first-at i k e lt =
      let some : min_leaf ≤ length (leaf_at ls k) = filled (omega arith) k [] lt in
      get_or_after_one (first_addresses ls) i 0 ∙ ap (address_at (first_addresses ls)) (sym e)
      ∙ get_or-map (λ (leaf : List Run). start_of leaf 0) ls k [] 0 lt
      ∙ start_of-leaf ls k 0 (count_before ls k) lt (omega arith) (omega arith)

  other-firsts : length (drop 1 (first_addresses ls)) ≡ length ls - 1
  other-firsts =
      omega (
        arith,
        length-drop 1 (first_addresses ls),
        length-map ls (λ (leaf : List Run). start_of leaf 0),
      )

  pub firsts-rising : AreRising (drop 1 (first_addresses ls))
  firsts-rising = λ i j lt end.
      let size = other-firsts in
      let rise = firsts-rise (1 + i) (1 + j) (omega arith) (omega arith) in
      let up = sorted (count_before ls (1 + i)) (count_before ls (1 + j)) rise.0 rise.1 in
      omega (
        arith,
        first-at i (1 + i) refl (omega arith),
        first-at j (1 + j) refl (omega arith),
      )

  -- the leaf that a search of them finds
  leaf-within : (k address : ℕ) → IsFirstFrom (drop 1 (first_addresses ls)) k address → k < length ls
  leaf-within k address first = let others = other-firsts in let end = first.within in omega arith

  pub leaf-rising : (k address : ℕ) → IsFirstFrom (drop 1 (first_addresses ls)) k address
      → AreRising (addresses (leaf_at ls k))
  leaf-rising k address first = λ i j lt end.
      let within = leaf-within k address first in
      let leaf = leaf_at ls k in
      let size = length-map leaf (λ (run : Run). run.start) in
      let before = count_before ls k in
      let up = sorted (before + i) (before + j) (omega arith) (omega (
        arith,
        count_before-more ls k within,
        count_before-rise ls (suc k) (length ls) (omega arith) (omega arith),
        count_before-all ls,
      )) in
      omega (
        arith,
        addresses-at leaf i (omega arith),
        addresses-at leaf j (omega arith),
        start_of-leaf ls k i (before + i) within (omega arith) (omega arith),
        start_of-leaf ls k j (before + j) within (omega arith) (omega arith),
      )

  -- the search of a leaf finds the index among all records, because the next leaf begins after it
  pub leaf-bound : (k offset address : ℕ) → IsFirstFrom (drop 1 (first_addresses ls)) k address
      → IsFirstFrom (addresses (leaf_at ls k)) offset address
      → IsLowerBound (joined ls) (count_before ls k + offset) address
  leaf-bound k offset address first is =
      let within = leaf-within k address first in
      let leaf = leaf_at ls k in
      let begin = count_before ls k in
      let inside = is.within in
      let size = length-map leaf (λ (run : Run). run.start) in
      let others = other-firsts in
      let next = count_before-more ls k within in
      let rest = count_before-rise ls (suc k) (length ls) (omega arith) (omega arith) in
      let all = count_before-all ls in
      record {
        within = omega arith;
        before = λ i lt. elim (cases_lt i begin) [
          | inl earlier ↦ elim (cases_lt 0 k) [
            | inl some ↦
                let index : k ≡ 1 + (k - 1) = omega arith in
                let below = first.before (k - 1) (omega arith) in
                let at = first-at (k - 1) k index within in
                let end = firsts-rise (k - 1) k (omega arith) within in
                let up = sorted i begin earlier end.1 in omega arith
            | inr none ↦
                let first_leaf : k ≡ 0 = omega arith in
                let nothing : begin ≡ 0 = ap (count_before ls) first_leaf in absurd (omega arith)
          ]
          | inr later ↦
              let below = is.before (i - begin) (omega arith) in
              omega (
                arith,
                addresses-at leaf (i - begin) (omega arith),
                start_of-leaf ls k (i - begin) i within (omega arith) (omega arith),
              )
        ];
        after = λ i le lt. elim (cases_lt i (begin + length leaf)) [
          | inl inner ↦
              let past = is.after (i - begin) (omega arith) (omega arith) in
              omega (
                arith,
                addresses-at leaf (i - begin) (omega arith),
                start_of-leaf ls k (i - begin) i within (omega arith) (omega arith),
              )
          | inr outer ↦ elim (cases_lt (suc k) (length ls)) [
            | inl more ↦
                let past = first.after k (omega arith) (omega arith) in
                let at = first-at k (suc k) (omega arith) more in
                elim (cases_lt (count_before ls (suc k)) i) [
                  | inl above ↦ let up = sorted (count_before ls (suc k)) i above lt in omega arith
                  | inr here ↦ let same : i ≡ count_before ls (suc k) = omega arith in
                      rw same (omega arith)
                ]
            | inr last ↦
                let end : suc k ≡ length ls = omega arith in
                let whole = ap (count_before ls) end in absurd (omega arith)
          ]
        ];
      }

  -- the cost of both searches
  pub leaf-cost : (k q p address : ℕ) → IsFirstFrom (drop 1 (first_addresses ls)) k address → All FitsLeaf ls
      → CostsHalving (length (drop 1 (first_addresses ls))) q
      → CostsHalving (length (addresses (leaf_at ls k))) p → CostsSearch (length (joined ls)) (q + p)
  leaf-cost k q p address found fits first is =
      let within = leaf-within k address found in
      let leaf = leaf_at ls k in
      let size = length-map leaf (λ (run : Run). run.start) in
      let leaf_is : CostsHalving (length leaf) p = rw size at is in
      let leaves_is : CostsHalving (length ls - 1) q = rw other-firsts at first in
      elim (cases_lt 1 (length ls)) [
        | inl many ↦
            let some : min_leaf ≤ length leaf = filled many k [] within in
            let room : length leaf ≤ max_leaf = fits k [] within in
            let back : length ls ≡ length ls - 1 + 1 = omega arith in
            let fewest = filled-count ls (filled many) in
            let most = fits-count ls fits in
            search-leaves q p (length ls - 1) (length leaf) (length (joined ls)) leaves_is leaf_is
            (omega arith) some room (omega arith) (omega arith)
        | inr few ↦
            let one : length ls ≡ 1 = omega arith in
            let first_leaf : k ≡ 0 = omega arith in
            let whole : length leaf ≡ length (joined ls) = omega (
              arith,
              count_before-more ls k within,
              ap (count_before ls) first_leaf,
              count_before-all ls,
              ap (count_before ls) one,
              ap (λ n. count_before ls (suc n)) first_leaf,
            ) in
            let top = leaves_is.most_probes in
            let free : q ≡ 0 = elim (cases_lt 0 q) [
              | inl pos ↦ let le : 1 ≤ q = pos in
                  let twice : 2 ^ 1 ≤ 2 ^ q = pow_mono le in absurd (omega arith)
              | inr le ↦ omega arith
            ] in
            let sum : q + p ≡ p = omega arith in
            rw (sum, sym whole) (search-one p (length leaf) leaf_is)
      ]
