-- Extents that name a block, of a list that grows.
use Rattle.std.proofs.Common.{◌≡◌, ◌≤◌, List, [], ◌∷◌, ◌++◌, length, Bool, true, false}
use Rattle.std.proofs.Common.{refl, ap, sym, arith}
use Rattle.std.specs.Prelude.{nat_lt, not, ◌||◌, cond}
use Rattle.std.proofs.lemmas.List.Elements.{filter-append}
use Rattle.std.proofs.lemmas.List.Filters.{length-filter_both}
use Rattle.sg_wire.specs.UnmapList.{named_extents}
use Rattle.sg_wire.specs.declared.extent.Extent.{Extent}

pub named-append : (only : Bool) (extents more : List Extent)
    → named_extents only (extents ++ more) ≡ named_extents only extents ++ named_extents only more
named-append true extents more = filter-append (λ (extent : Extent). nat_lt 0 extent.count) extents more
named-append false extents more = refl

pub named-at-most : (only : Bool) (extents : List Extent)
    → length (named_extents only extents) ≤ length extents
named-at-most true extents =
    let p : Extent → Bool = λ extent. nat_lt 0 extent.count in
    omega (arith, length-filter_both p (λ extent. not (p extent)) (λ extent. refl) extents)
named-at-most false extents = omega arith

-- those of a list that has only those are all
kept-again : (first : Extent) (rest : List Extent) (names : Bool) → nat_lt 0 first.count ≡ names
    → named_extents true (named_extents true rest) ≡ named_extents true rest
    → named_extents true (cond names (first ∷ named_extents true rest) (named_extents true rest))
    ≡ cond names (first ∷ named_extents true rest) (named_extents true rest)
kept-again first rest true is h = rw is (ap (λ (extents : List Extent). first ∷ extents) h)
kept-again first rest false is h = h

all-again : (extents : List Extent)
    → named_extents true (named_extents true extents) ≡ named_extents true extents
all-again [] = refl
all-again (first ∷ rest) = kept-again first rest (nat_lt 0 first.count) refl (all-again rest)

pub named_twice : (only again : Bool) (extents : List Extent)
    → named_extents (again || only) extents ≡ named_extents again (named_extents only extents)
named_twice only false extents = refl
named_twice true true extents = sym (all-again extents)
named_twice false true extents = refl
