-- Addresses are the disk's, and data is whole blocks.
use Rattle.std.proofs.Common.{◌≡◌, ◌<◌, ◌≤◌, ℕ, zero, suc, ◌+◌, cond, Some, None}
use Rattle.std.proofs.Common.{refl, sym, subst, ◌∙◌, arith, Option, is_some, true}
use Rattle.std.specs.Ordering.{nat_cmp, eq_by_cmp, is_eq}
use Rattle.std.specs.Cmp.{nat_cmp_total}
use Rattle.std.specs.FinMap as map
use Rattle.std.specs.FinMap.{nat_cmp-IsAntisymmetric}
use Rattle.std.specs.declared.cmp.Ordering.TheVariants.{Less, Equal, Greater}
use Rattle.sg_store.specs.Disk.{Contents, IsWellFormed, HasBlockLength, Mapping, remapped}
use Rattle.sg_store.proofs.DiskLemmas.{remapped-none, remapped-more}

none-some : (mapping : Mapping) → None ≡ Some mapping → ⊥
none-some mapping e = cc

pub well_formed-empty : (capacity : ℕ) → IsWellFormed capacity map.empty
well_formed-empty capacity = record
    { each = λ lba mapping e. absurd (none-some mapping (sym (map.get-empty nat_cmp lba) ∙ e)) }

some-same : (a b : Mapping) → Some a ≡ Some b → a ≡ b
some-same a b e = cc

-- one address more
one-more : (capacity : ℕ) (m : Contents) (a : ℕ) (new : Mapping) → IsWellFormed capacity m
    → a < capacity → HasBlockLength new →
    (q : ℕ) (x : Mapping) → cond (eq_by_cmp nat_cmp q a) (Some new) (map.get m q) ≡
    Some x → (q < capacity) × HasBlockLength x
one-more capacity m a new whole below fits q x =
    elim (nat_cmp q a) as (λ r. nat_cmp q a ≡ r → cond (is_eq r) (Some new) (map.get m q) ≡
    Some x → (q < capacity) × HasBlockLength x) [
      | Less ↦ λ _ e. whole.each q x e
      | Equal ↦ λ c e. let same = nat_cmp-IsAntisymmetric q a c in
          (omega (arith, same), subst HasBlockLength (some-same new x e) fits)
      | Greater ↦ λ _ e. whole.each q x e
    ] refl

well_formed-insert : (capacity : ℕ) (m : Contents) (a : ℕ) (new : Mapping)
    → IsWellFormed capacity m → a < capacity → HasBlockLength new
    → IsWellFormed capacity (map.insert m a new)
well_formed-insert capacity m a new whole below fits = record {
  each = λ q x e. one-more capacity m a new whole below fits q x
      (sym (map.get-insert nat_cmp_total m a new q) ∙ e);
}

pub well_formed-remapped : (capacity : ℕ) (m : Contents) (a k : ℕ) (f : ℕ → Mapping)
    → IsWellFormed capacity m → a + k ≤ capacity → ((i : ℕ) → i < k → HasBlockLength (f i))
    → IsWellFormed capacity (remapped m a k f)
well_formed-remapped capacity m a zero f whole range len = rw (remapped-none m a f) whole
well_formed-remapped capacity m a (suc k) f whole range len =
    let e : suc k ≡ k + 1 = omega arith in
    rw (e, remapped-more m a k f) (well_formed-insert capacity (remapped m a k f) (a + k) (f k)
    (well_formed-remapped capacity m a k f whole (omega arith) (λ i lt. len i (omega arith)))
    (omega arith) (len k (omega arith)))

pub well_formed-grown : (capacity more : ℕ) (m : Contents) → IsWellFormed capacity m
    → capacity ≤ more → IsWellFormed more m
well_formed-grown capacity more m whole h = record {
  each = λ lba mapping e. let found = whole.each lba mapping e in (omega (arith, found.0), found.1);
}

-- an address that has a pair is one of the disk's
pub below-some : (o : Option Mapping) (a capacity : ℕ) → ((x : Mapping) → o ≡ Some x → a < capacity)
    → is_some o ≡ true → a < capacity
below-some None a capacity each e = let wrong = e in cc
below-some (Some x) a capacity each e = each x refl
