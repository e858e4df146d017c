-- Ranges of a disk, one block at a time.
use Rattle.std.proofs.Common.{◌≡◌, ◌≢◌, ℕ, ◌+◌, ◌<◌, ◌≤◌, zero, suc, List, [], ◌++◌, ◌∷◌, sym, refl}
use Rattle.std.proofs.Common.{ap, ◌∙◌, arith, cond, Bool, true, false, Some, is_some, replicate}
use Rattle.std.specs.Ordering.{nat_cmp, eq_by_cmp, is_eq}
use Rattle.std.specs.Cmp.{nat_cmp_total}
use Rattle.std.specs.FinMap as map
use Rattle.std.specs.FinMap.{nat_cmp-IsAntisymmetric}
use Rattle.std.specs.declared.cmp.Ordering.TheVariants.{Less, Equal, Greater}
use Rattle.std.specs.List.{flat_map, range_with_len, count_by}
use Rattle.std.proofs.lemmas.List.{flat_map_more}
use Rattle.std.proofs.lemmas.List.FromFn.{map-range_with_len_more}
use Rattle.sg_store.specs.Disk.{Contents, Mapping, block, blocks, used_among, used_at}
use Rattle.sg_store.specs.Disk.{remapped, with_mappings, addressed, lies_in, zero_block}
use Rattle.std.proofs.lemmas.Bool.Decides.{nat_tests}
use Rattle.std.proofs.lemmas.List.Sums.{fold-append, sum_by-cons}
use Rattle.std.specs.Cmp.{nat_cmp_is}

-- the place of an address: in a range, below it or above it
pub inside : (a k q : ℕ) → a ≤ q → q < a + k → lies_in a k q ≡ true
inside a k q ge lt = grind (arith, nat_tests)

pub below : (a k q : ℕ) → q < a → lies_in a k q ≡ false
below a k q lt = grind (arith, nat_tests)

pub above : (a k q : ℕ) → a + k ≤ q → lies_in a k q ≡ false
above a k q ge = grind (arith, nat_tests)

pub lies_in-none : (a q : ℕ) → lies_in a 0 q ≡ false
lies_in-none a q = grind (arith, nat_tests)

-- as many zeros as a block has
pub zeros : (n : ℕ) (xs : List ℕ) → n ≡ 512 → xs ≡ replicate n 0 → xs ≡ zero_block
unfolding zero_block
zeros n xs e is = is ∙ ap (λ k. replicate k 0) e

-- one address more
pub range-more : (a k : ℕ) → range_with_len a (k + 1) ≡ range_with_len a k ++ (a + k) ∷ []
range-more a zero = let e : a + 0 ≡ a = omega arith in rw e refl
range-more a (suc k) = let e : suc k + 1 ≡ suc (k + 1) = omega arith in let f : a + 1 + k ≡
    a + suc k = omega arith in
    rw e (ap (λ xs. a ∷ xs) (range-more (a + 1) k ∙ ap (λ x. range_with_len (a + 1) k ++ x ∷ []) f))

pub blocks-none : (m : Contents) (a : ℕ) → blocks m a 0 ≡ []
unfolding blocks
blocks-none m a = refl

pub blocks-more : (m : Contents) (a k : ℕ) → blocks m a (k + 1) ≡ blocks m a k ++ block m (a + k)
unfolding blocks
blocks-more m a k = ap (flat_map (block m)) (range-more a k)
    ∙ sym (flat_map_more (block m) [] (range_with_len a k) (a + k))

pub used_among-none : (m : Contents) (a : ℕ) → used_among m a 0 ≡ 0
unfolding used_among
used_among-none m a = refl

-- an element more, at the end or before the others
pub count-last : (p : ℕ → Bool) (xs : List ℕ) (x : ℕ) → count_by p (xs ++ x ∷ [])
    ≡ count_by p xs + cond (p x) 1 0
count-last p xs x = fold-append (λ n y. n + cond (p y) 1 0) 0 xs (x ∷ [])

pub count-more : {X : Type 0} (p : X → Bool) (x : X) (xs : List X)
    → count_by p (x ∷ xs) ≡ cond (p x) 1 0 + count_by p xs
count-more p x xs = sum_by-cons (λ y. cond (p y) 1 0) x xs

pub used_among-more : (m : Contents) (a k : ℕ) → used_among m a (k + 1) ≡
    used_among m a k + used_at m (a + k)
unfolding used_among
used_among-more m a k = ap (count_by (map.contains_key m)) (range-more a k)
    ∙ count-last (map.contains_key m) (range_with_len a k) (a + k)

one_le : (b : Bool) → cond b 1 0 ≤ 1
one_le true = omega arith
one_le false = omega arith

pub used_at-le : (m : Contents) (a : ℕ) → used_at m a ≤ 1
used_at-le m a = one_le _

pub used_among-le : (m : Contents) (a k : ℕ) → used_among m a k ≤ k
used_among-le m a zero = omega (arith, used_among-none m a)
used_among-le m a (suc k) = let e : suc k ≡ k + 1 = omega arith in
    rw e (omega (arith, used_among-more m a k, used_among-le m a k, used_at-le m (a + k)))

pub eq_same : (q k : ℕ) → q ≡ k → eq_by_cmp nat_cmp q k ≡ true
eq_same q k e = ap is_eq (sym (nat_cmp_is q k Equal e))

pub eq_other : (q k : ℕ) → q ≢ k → eq_by_cmp nat_cmp q k ≡ false
eq_other q k ne = elim (nat_cmp q k) as (λ r. nat_cmp q k ≡ r → is_eq r ≡ false) [
  | Less ↦ λ _. refl
  | Equal ↦ λ e. absurd (ne (nat_cmp-IsAntisymmetric q k e))
  | Greater ↦ λ _. refl
] refl

pub remapped-none : (m : Contents) (a : ℕ) (f : ℕ → Mapping) → remapped m a 0 f ≡ m
unfolding remapped
remapped-none m a f = refl

pub with_mappings-more : (m : Contents) (pairs : List (ℕ × Mapping)) (p : ℕ × Mapping)
    → with_mappings m (pairs ++ p ∷ []) ≡ map.insert (with_mappings m pairs) p.0 p.1
with_mappings-more m [] p = refl
with_mappings-more m ((lba, mapping) ∷ pairs) p = with_mappings-more (map.insert m lba mapping) pairs p

pub remapped-more : (m : Contents) (a k : ℕ) (f : ℕ → Mapping) → remapped m a (k + 1) f ≡
    map.insert (remapped m a k f) (a + k) (f k)
unfolding remapped
remapped-more m a k f =
    ap (with_mappings m) (map-range_with_len_more (λ j. (a + j, f j)) 0 k k (omega arith))
    ∙ with_mappings-more m (addressed a k f) (a + k, f k)

-- an address past the range keeps its mapping
pub get-remapped-past : (m : Contents) (a k q : ℕ) (f : ℕ → Mapping) → a + k ≤ q
    → map.get (remapped m a k f) q ≡ map.get m q
get-remapped-past m a zero q f h = ap (λ d. map.get d q) (remapped-none m a f)
get-remapped-past m a (suc k) q f h = let e : suc k ≡ k + 1 = omega arith in
    rw (e, remapped-more m a k f) (
    map.get-insert nat_cmp_total (remapped m a k f) (a + k) (f k) q
    ∙ ap (λ (b : Bool). cond b (Some (f k)) (map.get (remapped m a k f) q))
    (eq_other q (a + k) (λ e. absurd (omega arith)))
    ∙ get-remapped-past m a k q f (omega arith))

count_step : (b : Bool) (w n k mm : ℕ) → w + mm ≡ n + k → cond b w (w + 1) + (mm + cond b 1 0) ≡ n + (k + 1)
count_step true w n k mm h = omega arith
count_step false w n k mm h = omega arith

-- the pairs afterwards: the earlier pairs, and one for each address that had none
pub len-remapped : (m : Contents) (a k : ℕ) (f : ℕ → Mapping)
    → map.len (remapped m a k f) + used_among m a k ≡ map.len m + k
len-remapped m a zero f = rw (remapped-none m a f, used_among-none m a) refl
len-remapped m a (suc k) f =
    let e : suc k ≡ k + 1 = omega arith in
    let w = remapped m a k f in
    let same : map.contains_key w (a + k) ≡ map.contains_key m (a + k) =
    ap is_some (get-remapped-past m a k (a + k) f (omega arith)) in
    rw (e, remapped-more m a k f, used_among-more m a k) (
    ap (λ n. n + (used_among m a k + used_at m (a + k)))
    (map.len-insert nat_cmp_total w (a + k) (f k)
    ∙ ap (λ (b : Bool). cond b (map.len w) (map.len w + 1)) same)
    ∙ count_step (map.contains_key m (a + k)) (map.len w) (map.len m) k (used_among m a k)
    (len-remapped m a k f))

-- a part of a range has at most as many addresses with a pair as the range
pub used_among-rest : (m : Contents) (a j d : ℕ) → used_among m a (j + d) ≤ used_among m a j + d
used_among-rest m a j zero = let e : j + 0 ≡ j = omega arith in rw e (omega arith)
used_among-rest m a j (suc d) =
    let e : j + suc d ≡ j + d + 1 = omega arith in
    let more = used_among-more m a (j + d) in
    let one = used_at-le m (a + (j + d)) in
    let rest = used_among-rest m a j d in
    rw e (omega arith)

-- an address past the remapped part has a pair if it had one
pub used_at-past : (m : Contents) (a j : ℕ) (f : ℕ → Mapping)
    → used_at (remapped m a j f) (a + j) ≡ used_at m (a + j)
used_at-past m a j f = ap (λ o. cond (is_some o) 1 0) (get-remapped-past m a j (a + j) f (omega arith))
