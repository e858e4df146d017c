-- Contents of records in several parts, and contents without the addresses of a range.
use Rattle.std.proofs.Common.{◌≡◌, ℕ, ◌+◌, ◌<◌, ◌≤◌, zero, suc, List, [], ◌∷◌, ◌++◌, arith, refl}
use Rattle.std.proofs.Common.{sym, ap, ap₂, ◌∙◌, Option, Some, None, cond, Bool, true}
use Rattle.std.proofs.Common.{false}
use Rattle.std.specs.Cmp.{nat_cmp_total}
use Rattle.std.specs.FinMap as map
use Rattle.std.specs.FinMap.{FinMap, find, get-from_entries, same_map, nat_cmp-IsAntisymmetric}
use Rattle.std.specs.Ordering.{nat_cmp, eq_by_cmp}
use Rattle.std.specs.Prelude.{not, is_some}
use Rattle.sg_store.specs.Disk.{Contents, Mapping, data_in, blocks, used_among}
use Rattle.sg_store.specs.Disk.{outside_range, unmapped}
use Rattle.sg_pool.specs.MappedRecords.{Seen, entries_by, contents_by}
use Rattle.sg_table.specs.declared.run.Run.{Run}
use Rattle.sg_pool.specs.Rising.{AreBetween}
use Rattle.sg_store.proofs.DiskLemmas.{blocks-none, blocks-more, used_among-none}
use Rattle.sg_store.proofs.DiskLemmas.{used_among-more, lies_in-none}
use Rattle.sg_store.proofs.UnmapLemmas.{get-outside}
use Rattle.sg_pool.proofs.MappedLemmas.{find-unmapped}
use Rattle.sg_pool.proofs.RisingLemmas.{between-low, between-high}

-- outside the addresses between which records lie
pub find-below : {X : Type 0} (xs : List Run) (f : Seen X) (a b q : ℕ) → AreBetween a b xs → q < a
    → find nat_cmp q (entries_by f xs) ≡ None
find-below xs f a b q h lt = find-unmapped f xs q
    (λ i low same. let up = between-low xs a b i h low in absurd (omega arith))

pub find-above : {X : Type 0} (xs : List Run) (f : Seen X) (a b q : ℕ) → AreBetween a b xs → b ≤ q
    → find nat_cmp q (entries_by f xs) ≡ None
find-above xs f a b q h le = find-unmapped f xs q
    (λ i low same. let up = between-high xs a b i h low in absurd (omega arith))

blank : (c : Bool) (v : Mapping) (o : Option Mapping) → cond c (Some v) o ≡ None → (c ≡ false)
    × (o ≡ None)
blank true v o e = let wrong = e in cc
blank false v o e = (refl, e)

-- the first part has no record of the address
pub find-right : (xs ys : List Run) (f : Seen Mapping) (q : ℕ)
    → find nat_cmp q (entries_by f xs) ≡ None
    → find nat_cmp q (entries_by f (xs ++ ys)) ≡ find nat_cmp q (entries_by f ys)
find-right [] ys f q none = refl
find-right (x ∷ xs) ys f q none =
    let both = blank (eq_by_cmp nat_cmp q x.start) (f x.first x.kind)
    (find nat_cmp q (entries_by f xs)) none in
    rw both.0 (find-right xs ys f q both.1)

-- the second part has none
pub find-left : (xs ys : List Run) (f : Seen Mapping) (q : ℕ)
    → find nat_cmp q (entries_by f ys) ≡ None
    → find nat_cmp q (entries_by f (xs ++ ys)) ≡ find nat_cmp q (entries_by f xs)
find-left [] ys f q none = none
find-left (x ∷ xs) ys f q none =
    ap (cond (eq_by_cmp nat_cmp q x.start) (Some (f x.first x.kind)))
    (find-left xs ys f q none)

-- only the middle part can have one
pub find-middle : (xs ys zs : List Run) (f : Seen Mapping) (a b c d q : ℕ) → AreBetween a b xs
    → b ≤ q → AreBetween c d zs → q < c
    → find nat_cmp q (entries_by f (xs ++ (ys ++ zs))) ≡ find nat_cmp q (entries_by f ys)
find-middle xs ys zs f a b c d q h le k lt =
    find-right xs (ys ++ zs) f q (find-above xs f a b q h le)
    ∙ find-left ys zs f q (find-below zs f c d q k lt)

pub get-middle : (xs ys zs : List Run) (f : Seen Mapping) (a b c d q : ℕ) → AreBetween a b xs
    → b ≤ q → AreBetween c d zs → q < c
    → map.get (contents_by f (xs ++ (ys ++ zs))) q ≡ map.get (contents_by f ys) q
get-middle xs ys zs f a b c d q h le k lt =
    get-from_entries nat_cmp_total (entries_by f (xs ++ (ys ++ zs))) q
    ∙ find-middle xs ys zs f a b c d q h le k lt
    ∙ sym (get-from_entries nat_cmp_total (entries_by f ys) q)

-- contents that are alike in a range
pub blocks-same : (m n : Contents) (lba count : ℕ)
    → ((q : ℕ) → lba ≤ q → q < lba + count → map.get m q ≡ map.get n q)
    → blocks m lba count ≡ blocks n lba count
blocks-same m n lba zero same = blocks-none m lba ∙ sym (blocks-none n lba)
blocks-same m n lba (suc count) same =
    let e : suc count ≡ count + 1 = omega arith in
    rw e (blocks-more m lba count ∙ ap₂ (λ xs ys. xs ++ ys)
    (blocks-same m n lba count (λ q le lt. same q le (omega arith)))
    (ap (λ o. data_in o) (same (lba + count) (omega arith) (omega arith)))
    ∙ sym (blocks-more n lba count))

pub used_among-same : (m n : Contents) (lba count : ℕ)
    → ((q : ℕ) → lba ≤ q → q < lba + count → map.get m q ≡ map.get n q)
    → used_among m lba count ≡ used_among n lba count
used_among-same m n lba zero same = used_among-none m lba ∙ sym (used_among-none n lba)
used_among-same m n lba (suc count) same =
    let e : suc count ≡ count + 1 = omega arith in
    rw e (used_among-more m lba count ∙ ap₂ (λ x y. x + y)
    (used_among-same m n lba count (λ q le lt. same q le (omega arith)))
    (ap (λ o. cond (is_some o) 1 0) (same (lba + count) (omega arith) (omega arith)))
    ∙ sym (used_among-more n lba count))

-- a range of no address
pub outside-none : {X : Type 0} (m : FinMap nat_cmp X) (lba : ℕ) → outside_range m lba 0 ≡ m
outside-none m lba = same_map nat_cmp_total nat_cmp-IsAntisymmetric _ _
    (λ q. get-outside m lba 0 q ∙ ap (λ b. cond (not b) (map.get m q) None) (lies_in-none lba q))

pub unmapped-none : (m : Contents) (lba : ℕ) → unmapped m lba 0 ≡ m
unfolding unmapped
unmapped-none m lba = outside-none m lba
