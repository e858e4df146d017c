-- A range that is unmapped.
use Rattle.std.proofs.Common.{◌≡◌, ℕ, refl, sym, ap, ◌∙◌, cond, Bool}
use Rattle.std.proofs.Common.{true, false, Option, Some, None}
use Rattle.std.specs.Prelude.{not}
use Rattle.std.specs.FinMap as map
use Rattle.std.specs.FinMap.{FinMap, get-retain_keys, nat_cmp-IsAntisymmetric}
use Rattle.std.specs.Ordering.{nat_cmp}
use Rattle.sg_store.specs.Disk.{Contents, IsWellFormed, Mapping, data_in, zero_block, lies_in}
use Rattle.sg_store.specs.Disk.{outside_range, unmapped}
use Rattle.sg_store.specs.LbaStatus.{status_in}
use Rattle.sg_wire.specs.declared.lba_status.ProvisioningStatus.TheVariants.{Deallocated}
use Rattle.sg_store.specs.Laws.{UnmapsEachBlock, UnmapsEachAddress}

-- the value that is found at an address afterwards
pub get-outside : {X : Type 0} (m : FinMap nat_cmp X) (a k q : ℕ)
    → map.get (outside_range m a k) q ≡ cond (not (lies_in a k q)) (map.get m q) None
get-outside m a k q = get-retain_keys m (λ x. not (lies_in a k x)) q
    (λ x e. ap (λ y. not (lies_in a k y)) (sym (nat_cmp-IsAntisymmetric q x e)))

pub get-unmapped : (m : Contents) (a k q : ℕ) → map.get (unmapped m a k) q ≡
    cond (not (lies_in a k q)) (map.get m q) None
unfolding unmapped
get-unmapped m a k q = get-outside m a k q

block-kept : (b : Bool) (o : Option Mapping) → data_in (cond (not b) o None) ≡ cond b zero_block (data_in o)
block-kept true o = refl
block-kept false o = refl

status-kept : (b : Bool) (o : Option Mapping) → status_in (cond (not b) o None)
    ≡ cond b Deallocated (status_in o)
status-kept true o = refl
status-kept false o = refl

pub block-unmapped : UnmapsEachBlock
block-unmapped m a k q = ap data_in (get-unmapped m a k q)
    ∙ block-kept (lies_in a k q) (map.get m q)

pub status-unmapped : UnmapsEachAddress
status-unmapped m a k q = ap status_in (get-unmapped m a k q) ∙ status-kept (lies_in a k q) (map.get m q)

was_there : (b : Bool) (o : Option Mapping) (x : Mapping) → cond b o None ≡ Some x → o ≡ Some x
was_there true o x e = e
was_there false o x e = let wrong = e in cc

pub well_formed-unmapped : (capacity : ℕ) (m : Contents) (a k : ℕ) → IsWellFormed capacity m
    → IsWellFormed capacity (unmapped m a k)
well_formed-unmapped capacity m a k whole = record {
  each = λ q x e. whole.each q x
      (was_there (not (lies_in a k q)) (map.get m q) x (sym (get-unmapped m a k q) ∙ e));
}
