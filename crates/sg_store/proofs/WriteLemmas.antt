-- The effect of remapping on each address.
use Rattle.std.proofs.Common.{◌≡◌, ◌≢◌, ℕ, ◌+◌, ◌-◌, zero, suc, refl, ap, ◌∙◌, arith, cond}
use Rattle.std.proofs.Common.{Bool, true, false, Option, Some, inl, inr}
use Rattle.std.proofs.lemmas.Bool.{cases_lt}
use Rattle.std.proofs.lemmas.Bool.Decides.{nat_tests}
use Rattle.std.specs.Ordering.{nat_cmp, eq_by_cmp}
use Rattle.std.specs.Cmp.{nat_cmp_total}
use Rattle.std.specs.FinMap as map
use Rattle.sg_store.specs.Disk.{Contents, Mapping, block, block_at, data_in, lies_in, remapped}
use Rattle.sg_store.specs.Disk.Mapping.{Data, Anchored}
use Rattle.sg_store.specs.LbaStatus.{status_at, status_in}
use Rattle.sg_store.specs.Laws.{WritesEachBlock, MapsEachAddress, FillsEachBlock, FillMapsEachAddress}
use Rattle.sg_store.specs.Laws.{AnchorZeroesEachBlock, AnchorsEachAddress}
use Rattle.sg_store.proofs.DiskLemmas.{remapped-none, remapped-more, eq_other}
use Rattle.sg_store.proofs.DiskLemmas.{eq_same, lies_in-none}

lies_in-last : (a k q : ℕ) → q ≡ a + k → lies_in a (k + 1) q ≡ true
lies_in-last a k q e = grind (arith, nat_tests)

lies_in-other : (a k q : ℕ) → q ≢ a + k → lies_in a (k + 1) q ≡ lies_in a k q
lies_in-other a k q e = grind (arith, nat_tests)

-- the mapping that is found at an address: the new one in the range, and the old one outside
abbrev found : (a k : ℕ) → (ℕ → Mapping) → (q : ℕ) → Option Mapping → Option Mapping
found a k f q before = cond (lies_in a k q) (Some (f (q - a))) before

one-more : (a k : ℕ) (f : ℕ → Mapping) (q : ℕ) (before : Option Mapping) →
    cond (eq_by_cmp nat_cmp q (a + k)) (Some (f k)) (found a k f q before) ≡ found a (k + 1) f q before
one-more a k f q before =
    let other : q ≢ a + k → cond (eq_by_cmp nat_cmp q (a + k)) (Some (f k)) (found a k f q before) ≡
    found a (k + 1) f q before
    = λ ne. rw (eq_other q (a + k) ne, lies_in-other a k q ne) refl in
    elim (cases_lt q (a + k)) [
      | inl below ↦ other (λ e. absurd (omega arith))
      | inr at ↦ elim (cases_lt (a + k) q) [
        | inl past ↦ other (λ e. absurd (omega arith))
        | inr here ↦
            let e : q ≡ a + k = omega arith in
            let index : q - a ≡ k = omega arith in
            rw (eq_same q (a + k) e, lies_in-last a k q e, index) refl
      ]
    ]

pub get-remapped : (m : Contents) (a k : ℕ) (f : ℕ → Mapping) (q : ℕ)
    → map.get (remapped m a k f) q ≡ found a k f q (map.get m q)
get-remapped m a zero f q = rw (remapped-none m a f, lies_in-none a q) refl
get-remapped m a (suc k) f q = let e : suc k ≡ k + 1 = omega arith in
    rw (e, remapped-more m a k f) (
    map.get-insert nat_cmp_total (remapped m a k f) (a + k) (f k) q
    ∙ ap (cond (eq_by_cmp nat_cmp q (a + k)) (Some (f k))) (get-remapped m a k f q)
    ∙ one-more a k f q (map.get m q))

block-found : (b : Bool) (x : Mapping) (y : Option Mapping)
    → data_in (cond b (Some x) y) ≡ cond b (data_in (Some x)) (data_in y)
block-found true x y = refl
block-found false x y = refl

status-found : (b : Bool) (x : Mapping) (y : Option Mapping)
    → status_in (cond b (Some x) y) ≡ cond b (status_in (Some x)) (status_in y)
status-found true x y = refl
status-found false x y = refl

block-remapped : (m : Contents) (a k : ℕ) (f : ℕ → Mapping) (q : ℕ) → block (remapped m a k f) q ≡
    cond (lies_in a k q) (data_in (Some (f (q - a)))) (block m q)
block-remapped m a k f q = ap data_in (get-remapped m a k f q)
    ∙ block-found (lies_in a k q) (f (q - a)) (map.get m q)

status-remapped : (m : Contents) (a k : ℕ) (f : ℕ → Mapping) (q : ℕ)
    → status_at (remapped m a k f) q ≡ cond (lies_in a k q) (status_in (Some (f (q - a)))) (status_at m q)
status-remapped m a k f q = ap status_in (get-remapped m a k f q)
    ∙ status-found (lies_in a k q) (f (q - a)) (map.get m q)

pub block-written : WritesEachBlock
block-written m a k bytes = block-remapped m a k (λ index. Data (block_at bytes index))

pub status-written : MapsEachAddress
status-written m a k bytes = status-remapped m a k (λ index. Data (block_at bytes index))

pub block-filled : FillsEachBlock
block-filled m a k b = block-remapped m a k (λ index. Data b)

pub status-filled : FillMapsEachAddress
status-filled m a k b = status-remapped m a k (λ index. Data b)

pub block-anchored : AnchorZeroesEachBlock
block-anchored m a k = block-remapped m a k (λ index. Anchored)

pub status-anchored : AnchorsEachAddress
status-anchored m a k = status-remapped m a k (λ index. Anchored)
