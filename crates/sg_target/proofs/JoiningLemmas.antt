-- The steps of joining ranges.
use Rattle.std.proofs.Common.{◌≡◌, ℕ, ◌+◌, ◌<◌, ◌≤◌, List, [], ◌∷◌, ◌++◌, length, append_assoc}
use Rattle.std.proofs.Common.{length-append, Bool, true, false, refl, sym, ap, ◌∙◌, arith, inl, inr}
use Rattle.std.proofs.Common.{cond, drop, get_or, subst, Option, Some, None}
use Rattle.std.proofs.Math.Bool.{or_assoc}
use Rattle.std.proofs.lemmas.List.{drop_more}
use Rattle.std.specs.Prelude.{◌||◌, nat_lt}
use Rattle.sg_target.specs.Joining.{end_of, covers, lies_in_some, AreWithin, AreDisjoint, Cost}
use Rattle.sg_target.specs.Joining.{IsSubadditive, cost_of, both, AreJoined, joined_if_near}
use Rattle.sg_target.specs.declared.joining.AddressRange.{AddressRange}
use Rattle.sg_target.proofs.AddressRangeLemmas.{some-append, some-middle, cost-middle, within-middle}
use Rattle.sg_target.proofs.AddressRangeLemmas.{within-left, within-append, disjoint-middle, disjoint-last}
use Rattle.sg_target.proofs.AddressRangeLemmas.{apart-covers, both-covers, both-within}
use Rattle.sg_target.proofs.AddressRangeLemmas.{both-cheaper, either_true, both_false, or_left}

-- A range has grown by the ranges of a list that were near it. The others are set apart as far as
-- the list was gone through, and `rest` is the rest of the list.
pub record IsGrown (range : AddressRange) (ranges : List AddressRange) (grown : AddressRange)
    (apart rest : List AddressRange) : Type 0 where
  pub disjoint : AreDisjoint (apart ++ rest)
  pub off : (q : ℕ) → covers q grown ≡ true → lies_in_some apart q ≡ false
  pub same : (q : ℕ) → (covers q grown || lies_in_some (apart ++ rest) q)
      ≡ (covers q range || lies_in_some ranges q)
  pub cheaper : (cost : Cost) → IsSubadditive cost
      → cost grown.lba grown.count + cost_of cost (apart ++ rest)
      ≤ cost range.lba range.count + cost_of cost ranges
  pub within : (capacity : ℕ) → AreWithin capacity (range ∷ ranges)
      → AreWithin capacity (grown ∷ (apart ++ rest))
  pub count : length apart + length rest ≤ length ranges

pub grown-first : (range : AddressRange) (ranges : List AddressRange) → AreDisjoint ranges
    → IsGrown range ranges range [] ranges
grown-first range ranges h = record {
  disjoint = h;
  off = λ q e. refl;
  same = λ q. refl;
  cheaper = λ cost law. omega arith;
  within = λ capacity h. h;
  count = omega arith;
}

module _ (range : AddressRange) (ranges : List AddressRange) (grown : AddressRange)
    (apart : List AddressRange) (x : AddressRange) (rest : List AddressRange)
    (h : IsGrown range ranges grown apart (x ∷ rest)) where
  -- the next range is near
  pub grown-joined : (nat_lt (end_of grown) x.lba || nat_lt (end_of x) grown.lba) ≡ false
      → IsGrown range ranges (both grown x) apart rest
  grown-joined near =
      let others = disjoint-middle x apart rest h.disjoint in
      record {
        disjoint = others.1;
        off = λ q e. elim (either_true (covers q grown) (covers q x)
            (sym (both-covers grown x q near) ∙ e)) [
              | inl a ↦ h.off q a
              | inr b ↦ or_left (lies_in_some apart q) (lies_in_some rest q)
                  (sym (some-append apart rest q) ∙ others.0 q b)
            ];
        same = λ q. ap (λ b. b || lies_in_some (apart ++ rest) q) (both-covers grown x q near)
            ∙ or_assoc (covers q grown) (covers q x) (lies_in_some (apart ++ rest) q)
            ∙ ap (λ b. covers q grown || b) (sym (some-middle apart rest x q)) ∙ h.same q;
        cheaper = λ cost law. omega (
          arith,
          both-cheaper cost grown x law near,
          cost-middle cost apart rest x,
          h.cheaper cost law,
        );
        within = λ capacity w.
            let all = h.within capacity w in
            let mid = within-middle capacity apart rest x all.1 in
            (both-within grown x capacity all.0 mid.0, mid.1);
        count = omega (arith, h.count);
      }

  -- or it is not
  pub grown-apart : (nat_lt (end_of grown) x.lba || nat_lt (end_of x) grown.lba) ≡ true
      → IsGrown range ranges grown (apart ++ x ∷ []) rest
  grown-apart off =
      let same : (apart ++ x ∷ []) ++ rest ≡ apart ++ x ∷ rest = append_assoc apart (x ∷ []) rest in
      let len = length-append apart (x ∷ []) in
      record {
        disjoint = rw same h.disjoint;
        off = λ q e. some-append apart (x ∷ []) q
            ∙ both_false (lies_in_some apart q) (covers q x || false) (h.off q e)
            (both_false (covers q x) false (apart-covers grown x q off e) refl);
        same = λ q. rw same (h.same q);
        cheaper = λ cost law. rw same (h.cheaper cost law);
        within = λ capacity w. rw same (h.within capacity w);
        count = omega (arith, h.count, len);
      }

-- ---- as the code goes on by an index

near-some : (t : Bool) (x b : AddressRange) → cond t None (Some x) ≡ Some b → (t ≡ false) × (b ≡ x)
near-some true x b e = let wrong = e in cc
near-some false x b e = (refl, some_same b x (sym e))
  where
    some_same : (a b : AddressRange) → Some a ≡ Some b → a ≡ b
    some_same a b e = cc

near-none : (t : Bool) (x : AddressRange) → cond t None (Some x) ≡ None → t ≡ true
near-none true x e = refl
near-none false x e = let wrong = e in cc

module _ (range : AddressRange) (ranges : List AddressRange) (grown : AddressRange)
    (apart items : List AddressRange) (i : ℕ) (d : AddressRange) (here : i < length items)
    (h : IsGrown range ranges grown apart (drop i items)) where
  now : IsGrown range ranges grown apart (get_or items i d ∷ drop (i + 1) items)
  now = subst (IsGrown range ranges grown apart) (drop_more items i d here) h

  pub step-within : (capacity : ℕ) → AreWithin capacity (range ∷ ranges)
      → (end_of grown ≤ capacity) × (end_of (get_or items i d) ≤ capacity)
  step-within capacity w =
      let all = now.within capacity w in
      (all.0, (within-middle capacity apart (drop (i + 1) items) (get_or items i d) all.1).0)

  pub step-joined : (result : Option AddressRange) (b : AddressRange)
      → result ≡ joined_if_near grown (get_or items i d) → result ≡ Some b
      → IsGrown range ranges b apart (drop (i + 1) items)
  step-joined result b e is =
      let both_is = near-some _ _ b (sym e ∙ is) in
      rw both_is.1 (grown-joined range ranges grown apart (get_or items i d) (drop (i + 1) items) now
      both_is.0)

  pub step-apart : (result : Option AddressRange)
      → result ≡ joined_if_near grown (get_or items i d) → result ≡ None
      → IsGrown range ranges grown (apart ++ get_or items i d ∷ []) (drop (i + 1) items)
  step-apart result e is =
      grown-apart range ranges grown apart (get_or items i d) (drop (i + 1) items) now
      (near-none _ _ (sym e ∙ is))

append_none : (xs : List AddressRange) → xs ++ [] ≡ xs
append_none [] = refl
append_none (x ∷ xs) = ap (λ ys. x ∷ ys) (append_none xs)

-- the list is gone through
pub grown-last : (range : AddressRange) (ranges : List AddressRange) (grown : AddressRange)
    (apart : List AddressRange) → IsGrown range ranges grown apart []
    → AreJoined (range ∷ ranges) (apart ++ grown ∷ [])
grown-last range ranges grown apart h =
    let none = append_none apart in
    let len = length-append apart (grown ∷ []) in
    record {
      same = λ q. some-middle apart [] grown q ∙ h.same q;
      disjoint = disjoint-last grown apart (rw none at h.disjoint) h.off;
      cheaper = λ cost law. omega (arith, cost-middle cost apart [] grown, h.cheaper cost law);
      within = λ capacity w.
          let all = h.within capacity w in
          within-append capacity apart (grown ∷ []) (within-left capacity apart [] all.1) (all.0, tt);
      count = omega (arith, len, h.count);
    }

-- ---- one range after the other

pub joined-none : AreJoined [] []
joined-none = record {
  same = λ q. refl;
  disjoint = tt;
  cheaper = λ cost law. omega arith;
  within = λ capacity h. h;
  count = omega arith;
}

or_last : (a b : Bool) → (a || b) ≡ (b || (a || false))
or_last true true = refl
or_last true false = refl
or_last false true = refl
or_last false false = refl

pub cost-last : (cost : Cost) (xs : List AddressRange) (x : AddressRange)
    → cost_of cost (xs ++ x ∷ []) ≡ cost x.lba x.count + cost_of cost xs
cost-last cost xs x = cost-middle cost xs [] x ∙ ap (λ ys. cost x.lba x.count + cost_of cost ys)
    (append_none xs)

within-last : (capacity : ℕ) (xs : List AddressRange) (x : AddressRange)
    → AreWithin capacity (xs ++ x ∷ []) → AreWithin capacity (x ∷ xs)
within-last capacity xs x h = let mid = within-middle capacity xs [] x h in
    (mid.0, within-left capacity xs [] mid.1)

pub joined-more : (ranges joined : List AddressRange) (range : AddressRange)
    (more : List AddressRange) → AreJoined ranges joined → AreJoined (range ∷ joined) more
    → AreJoined (ranges ++ range ∷ []) more
joined-more ranges joined range more h k =
    let len = length-append ranges (range ∷ []) in
    record {
      same = λ q. k.same q ∙ ap (λ b. covers q range || b) (h.same q)
          ∙ or_last (covers q range) (lies_in_some ranges q)
          ∙ sym (some-append ranges (range ∷ []) q);
      disjoint = k.disjoint;
      cheaper = λ cost law. omega (
        arith,
        k.cheaper cost law,
        h.cheaper cost law,
        cost-last cost ranges range,
      );
      within = λ capacity w. let last = within-last capacity ranges range w in
          k.within capacity (last.0, h.within capacity last.1);
      count = omega (arith, k.count, h.count, len);
    }

pub within-first : (capacity : ℕ) (ranges joined : List AddressRange) (range : AddressRange)
    (rest : List AddressRange) → AreJoined ranges joined
    → AreWithin capacity (ranges ++ range ∷ rest) → AreWithin capacity (range ∷ joined)
within-first capacity ranges joined range rest h w =
    let mid = within-middle capacity ranges rest range w in
    (mid.0, h.within capacity (within-left capacity ranges rest mid.1))
