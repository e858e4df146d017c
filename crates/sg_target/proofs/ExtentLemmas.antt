-- Extents one by one.
use Rattle.std.proofs.Common.{◌≡◌, ◌≤◌, ◌<◌, ℕ, zero, suc, ◌+◌, List, [], ◌∷◌, ◌++◌, length, take}
use Rattle.std.proofs.Common.{drop, map, get_or, Option, Some, None, refl, arith}
use Rattle.std.proofs.lemmas.List.{drop_more, drop_all, take_more}
use Rattle.sg_wire.specs.declared.extent.Extent.{Extent}
use Rattle.sg_target.specs.BlockCommands.{past_capacity}
use Rattle.sg_target.specs.Refusal.{first_some}
use Rattle.sg_target.specs.Extents.{AreOnDisk}
use Rattle.sg_target.specs.declared.refusal.Refusal.{Refusal}

module _ (capacity : ℕ) (extents : List Extent) where
  -- the check of the extents from an index on
  abbrev check_from : ℕ → Option Refusal
  check_from i = first_some (map (past_capacity capacity) (drop i extents))

  -- one more that is on the disk
  pub past-more : (i : ℕ) (d : Extent) → i < length extents
      → past_capacity capacity (get_or extents i d) ≡ None → check_from (i + 1) ≡ check_from i
  past-more i d h e = rw (drop_more extents i d h, e) refl

  -- the first that is not
  pub past-here : (i : ℕ) (d : Extent) (refusal : Refusal) → i < length extents
      → past_capacity capacity (get_or extents i d) ≡ Some refusal → check_from i ≡ Some refusal
  past-here i d refusal h e = rw (drop_more extents i d h, e) refl

  pub past-end : (i : ℕ) → length extents ≤ i → check_from i ≡ None
  past-end i h = rw (drop_all i extents h) refl

pub on_disk-more : (capacity : ℕ) (extents : List Extent) (last : Extent) → AreOnDisk capacity extents
    → last.lba + last.count ≤ capacity → AreOnDisk capacity (extents ++ last ∷ [])
on_disk-more capacity [] last h l = (l, tt)
on_disk-more capacity (first ∷ more) last h l = (h.0, on_disk-more capacity more last h.1 l)

-- those up to an index, and the next
pub on_disk-next : (capacity : ℕ) (extents : List Extent) (i : ℕ) (d : Extent) → i < length extents
    → AreOnDisk capacity (take i extents)
    → (get_or extents i d).lba + (get_or extents i d).count ≤ capacity
    → AreOnDisk capacity (take (i + 1) extents)
on_disk-next capacity extents i d h a l =
    rw (take_more extents i d h) (on_disk-more capacity (take i extents) (get_or extents i d) a l)

-- the one at an index
pub on_disk-at : (capacity : ℕ) (extents : List Extent) (i : ℕ) (d : Extent) → i < length extents
    → AreOnDisk capacity extents → (get_or extents i d).lba + (get_or extents i d).count ≤ capacity
on_disk-at capacity [] i d h a = absurd (omega arith)
on_disk-at capacity (first ∷ more) zero d h a = a.0
on_disk-at capacity (first ∷ more) (suc i) d h a = on_disk-at capacity more i d (omega arith) a.1
