-- Items taken in turn.
use Rattle.std.proofs.Common.{◌≡◌, ℕ, List, [], ◌∷◌, ◌++◌, length, Option, Bool, true, false, cond, refl}
use Rattle.std.proofs.Common.{sym, ap, ◌∙◌, arith}
use Rattle.std.specs.Cmp.{nat_cmp_total}
use Rattle.std.specs.FinMap.{get, same_map, nat_cmp-IsAntisymmetric}
use Rattle.std.specs.List.{list_any}
use Rattle.std.specs.Prelude.{◌||◌}
use Rattle.sg_store.specs.Disk.{Contents, Mapping}
use Rattle.sg_target.specs.Ranges.{Range, range, ranges_in_turn}
use Rattle.sg_target.specs.ProvisioningCommands.{Change, changed_in_turn}
use Rattle.sg_wire.specs.declared.extent.Extent.{Extent}

-- ---- one more extent

module _ (change : Change) where
  pub changed-append : (contents : Contents) (extents more : List Extent)
      → changed_in_turn change contents (extents ++ more)
      ≡ changed_in_turn change (changed_in_turn change contents extents) more
  changed-append contents [] more = refl
  changed-append contents (first ∷ rest) more =
      changed-append (change contents first.lba first.count) rest more

  pub ranges-more : (contents : Contents) (extents : List Extent) (last : Extent)
      → ranges_in_turn change contents (extents ++ last ∷ [])
      ≡ ranges_in_turn change contents extents ++ range (changed_in_turn change contents extents) last
      ∷ []
  ranges-more contents [] last = refl
  ranges-more contents (first ∷ rest) last =
      ap (λ (over : List Range). range contents first ∷ over)
      (ranges-more (change contents first.lba first.count) rest last)

  pub length-ranges : (contents : Contents) (extents : List Extent)
      → length (ranges_in_turn change contents extents) ≡ length extents
  length-ranges contents [] = refl
  length-ranges contents (first ∷ rest) =
      let more = length-ranges (change contents first.lba first.count) rest in omega arith

-- ---- items that give the same to each address that they cover

either : {A : Type 0} (a b : Bool) (x y : A) → cond a x (cond b x y) ≡ cond (b || a) x y
either true true x y = refl
either true false x y = refl
either false true x y = refl
either false false x y = refl

module _ {X : Type 0} (covers : ℕ → X → Bool) (one : Contents → X → Contents)
    (all : Contents → List X → Contents) (none : (m : Contents) → all m [] ≡ m)
    (more : (m : Contents) (x : X) (xs : List X) → all m (x ∷ xs) ≡ all (one m x) xs)
  where
    -- what is seen at an address after all of them
    pub seen : {A : Type 0} (see : Contents → ℕ → A) (given : A)
        → ((m : Contents) (x : X) (q : ℕ) → see (one m x) q ≡ cond (covers q x) given (see m q))
        → (m : Contents) (xs : List X) (q : ℕ)
        → see (all m xs) q ≡ cond (list_any (covers q) xs) given (see m q)
    seen see given law m [] q = ap (λ c. see c q) (none m)
    seen see given law m (x ∷ xs) q = ap (λ c. see c q) (more m x xs)
        ∙ seen see given law (one m x) xs q
        ∙ ap (cond (list_any (covers q) xs) given) (law m x q)
        ∙ either (list_any (covers q) xs) (covers q x) given (see m q)

    -- only the addresses matter that are covered
    pub same : (given : Option Mapping)
        → ((m : Contents) (x : X) (q : ℕ) → get (one m x) q ≡ cond (covers q x) given (get m q))
        → (m : Contents) (xs ys : List X)
        → ((q : ℕ) → list_any (covers q) xs ≡ list_any (covers q) ys) → all m xs ≡ all m ys
    same given law m xs ys h = same_map nat_cmp_total nat_cmp-IsAntisymmetric _ _ (λ q.
        seen get given law m xs q ∙ ap (λ b. cond b given (get m q)) (h q)
        ∙ sym (seen get given law m ys q))
