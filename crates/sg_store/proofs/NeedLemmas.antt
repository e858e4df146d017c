-- The number of addresses of a range that have no block of the pool.
use Rattle.std.proofs.Common.{◌≡◌, ℕ, ◌+◌, ◌≤◌, zero, suc, refl, ap, ◌∙◌, arith, cond, Bool}
use Rattle.std.proofs.Common.{true, false}
use Rattle.std.specs.FinMap as map
use Rattle.std.specs.List.{range_with_len, count_by}
use Rattle.std.specs.Prelude.{not}
use Rattle.sg_store.specs.Disk.{Contents, Mapping, need, remapped, used_among}
use Rattle.sg_store.proofs.DiskLemmas.{count-last, range-more, used_among-more, used_among-none}
use Rattle.sg_store.proofs.DiskLemmas.{len-remapped}

pub need-none : (m : Contents) (a : ℕ) → need m a 0 ≡ 0
unfolding need
need-none m a = refl

pub need-more : (m : Contents) (a k : ℕ)
    → need m a (k + 1) ≡ need m a k + cond (not (map.contains_key m (a + k))) 1 0
unfolding need
need-more m a k = ap (count_by (λ q. not (map.contains_key m q))) (range-more a k)
    ∙ count-last (λ q. not (map.contains_key m q)) (range_with_len a k) (a + k)

unless_it_has : (b : Bool) → cond {A = ℕ} (not b) 1 0 ≡ cond b 0 1
unless_it_has true = refl
unless_it_has false = refl

-- one address more needs a block, unless it has one
pub need-next : (m : Contents) (a k : ℕ)
    → need m a (k + 1) ≡ need m a k + cond (map.contains_key m (a + k)) 0 1
need-next m a k = need-more m a k
    ∙ ap (λ one. need m a k + one) (unless_it_has (map.contains_key m (a + k)))

one_of : (b : Bool) → cond {A = ℕ} b 1 0 + cond (not b) 1 0 ≡ 1
one_of true = refl
one_of false = refl

-- an address has a block or needs one
pub need-used : (m : Contents) (a k : ℕ) → used_among m a k + need m a k ≡ k
need-used m a zero = omega (arith, used_among-none m a, need-none m a)
need-used m a (suc k) =
    let e : suc k ≡ k + 1 = omega arith in
    rw e (omega (
      arith,
      used_among-more m a k,
      need-more m a k,
      one_of (map.contains_key m (a + k)),
      need-used m a k,
    ))

-- as many pairs more as the range needs
pub len-needed : (m : Contents) (a k : ℕ) (f : ℕ → Mapping)
    → map.len (remapped m a k f) ≡ map.len m + need m a k
len-needed m a k f = omega (arith, len-remapped m a k f, need-used m a k)

pub need-le : (m : Contents) (a k : ℕ) → need m a k ≤ k
need-le m a k = omega (arith, need-used m a k)
