-- The leaves in their slots.
use Rattle.std.proofs.Common.{◌≡◌, ◌≢◌, ℕ, zero, suc, ◌+◌, ◌<◌, ◌≤◌, List, [], ◌∷◌, ◌++◌, length}
use Rattle.std.proofs.Common.{map, get_or, set, sym, ap, ap₂, ◌∙◌, arith, refl, inl, inr, length-append}
use Rattle.std.proofs.Common.{length-set}
use Rattle.std.proofs.Math.Seq.{get_or-append_seam}
use Rattle.std.proofs.lemmas.List.{get_or_default, get_or-map, get_or_append_left}
use Rattle.std.proofs.lemmas.Bool.{cases_lt}
use Rattle.std.proofs.lemmas.List.{get_or-set_same, get_or-set_other, length-map}
use Rattle.std.proofs.lemmas.List.Edits.{length-insert, length-remove}
use Rattle.std.specs.Prelude.{insert, remove}
use Rattle.sg_table.specs.LeafList.{LeafRow, AreEmpty, AreSlots, IsTaken, leaves_in}
use Rattle.sg_table.specs.Leaves.{leaf_at}
use Rattle.sg_table.specs.Occurrences.{occurrences, one_if_equal}
use Rattle.sg_table.specs.declared.run.Run.{Run}
use Rattle.sg_table.proofs.OccurrenceLemmas.{below_count, not_equal, once-le, once-none, once_step}
use Rattle.sg_table.proofs.OccurrenceLemmas.{occurrences-append, occurrences-more, occurrences-one}
use Rattle.sg_table.proofs.OccurrenceLemmas.{same_slot}

pub map-insert : {X Y : Type 0} (f : X → Y) (xs : List X) (k : ℕ) (x : X)
    → map f (insert xs k x) ≡ insert (map f xs) k (f x)
map-insert f xs zero x = refl
map-insert f [] (suc k) x = refl
map-insert f (y ∷ xs) (suc k) x = ap (λ ys. f y ∷ ys) (map-insert f xs k x)

pub map-remove : {X Y : Type 0} (f : X → Y) (xs : List X) (k : ℕ) → map f (remove xs k) ≡ remove (map f xs) k
map-remove f [] zero = refl
map-remove f [] (suc k) = refl
map-remove f (y ∷ xs) zero = refl
map-remove f (y ∷ xs) (suc k) = ap (λ ys. f y ∷ ys) (map-remove f xs k)

occurrences-insert : (t : ℕ) (xs : List ℕ) (k x : ℕ)
    → occurrences t (insert xs k x) ≡ one_if_equal t x + occurrences t xs
unfolding occurrences
occurrences-insert t xs zero x = refl
occurrences-insert t [] (suc k) x = refl
occurrences-insert t (y ∷ xs) (suc k) x = omega (arith, occurrences-insert t xs k x)

occurrences-remove : (t : ℕ) (xs : List ℕ) (k d : ℕ) → k < length xs
    → one_if_equal t (get_or xs k d) + occurrences t (remove xs k) ≡ occurrences t xs
unfolding occurrences
occurrences-remove t [] k d lt = absurd (omega arith)
occurrences-remove t (y ∷ xs) zero d lt = refl
occurrences-remove t (y ∷ xs) (suc k) d lt = omega (arith, occurrences-remove t xs k d (omega arith))

occurs : (xs : List ℕ) (k d : ℕ) → k < length xs → 1 ≤ occurrences (get_or xs k d) xs
occurs xs k d lt =
    omega (arith, occurrences-remove (get_or xs k d) xs k d lt, same_slot (get_or xs k d))

-- a slot of the order occurs once in it, and is one of the slots
below : (slots : List (List Run)) (order free : List ℕ) (t : ℕ) → AreSlots slots order free
    → 1 ≤ occurrences t order → t < length slots
below slots order free t are some =
    below_count (length slots) (order ++ free) t are.once
    (omega (arith, occurrences-append t order free))

once : (slots : List (List Run)) (order free : List ℕ) (t : ℕ) → AreSlots slots order free
    → occurrences t order ≤ 1
once slots order free t are =
    omega (arith, once-le (length slots) (order ++ free) t are.once, occurrences-append t order free)

pub order-below : (slots : List (List Run)) (order free : List ℕ) (k d : ℕ) → AreSlots slots order free
    → k < length order → get_or order k d < length slots
order-below slots order free k d are lt =
    below slots order free (get_or order k d) are (occurs order k d lt)

-- as many slots are in the order as there are leaves
pub count-leaves : (slots : List (List Run)) (order : List ℕ) (ls : List (List Run))
    → leaves_in slots order ≡ ls → length order ≡ length ls
count-leaves slots order ls same = sym (length-map order (leaf_at slots)) ∙ ap length same

-- the result of a read of a leaf
pub leaf-in : (slots : List (List Run)) (order free : List ℕ) (ls : List (List Run)) (k s : ℕ)
    (x : List Run) → AreSlots slots order free → leaves_in slots order ≡ ls → k < length ls
    → s ≡ get_or order k s → x ≡ get_or slots s x → x ≡ leaf_at ls k
leaf-in slots order free ls k s x are same lt at read =
    let in' : k < length order = omega (arith, count-leaves slots order ls same) in
    let within : s < length slots = rw (sym at) at (order-below slots order free k s are in') in
    read ∙ get_or_default slots s x [] within ∙ ap (leaf_at slots) at
    ∙ sym (get_or-map (leaf_at slots) order k s [] in') ∙ ap (λ l. leaf_at l k) same

-- leaves in other slots are as they were
leaves_in-others : (old new : List (List Run)) (s : ℕ) (order : List ℕ)
    → ((t : ℕ) → t < length old → t ≢ s → leaf_at new t ≡ leaf_at old t)
    → ((t : ℕ) → 1 ≤ occurrences t order → t < length old) → occurrences s order ≡ 0
    → leaves_in new order ≡ leaves_in old order
leaves_in-others old new s [] others low none = refl
leaves_in-others old new s (t ∷ order) others low none =
    let more = occurrences-more s t order in
    let here = others t (low t (omega (arith, occurrences-more t t order, same_slot t)))
    (not_equal s t (omega arith)) in
    ap₂ (λ x xs. x ∷ xs) here (leaves_in-others old new s order others
    (λ u some. low u (omega (arith, occurrences-more u t order))) (omega arith))

-- one leaf gets other records
leaves_in-set : (slots : List (List Run)) (order : List ℕ) (k s d : ℕ) (leaf : List Run)
    → ((t : ℕ) → 1 ≤ occurrences t order → t < length slots) → occurrences s order ≤ 1
    → k < length order → s ≡ get_or order k d
    → leaves_in (set slots s leaf) order ≡ set (leaves_in slots order) k leaf
leaves_in-set slots [] k s d leaf low one lt at = absurd (omega arith)
leaves_in-set slots (t ∷ order) zero s d leaf low one lt at =
    let more = occurrences-more s t order in
    let same : one_if_equal s t ≡ 1 = rw at (same_slot t) in
    ap₂ (λ x xs. x ∷ xs) (ap (leaf_at (set slots s leaf)) (sym at)
    ∙ get_or-set_same slots s leaf [] (low s (omega arith)))
    (leaves_in-others slots (set slots s leaf) s order (λ u _ apart. get_or-set_other slots s u leaf [] apart)
    (λ u some. low u (omega (arith, occurrences-more u t order))) (omega arith))
leaves_in-set slots (t ∷ order) (suc k) s d leaf low one lt at =
    let more = occurrences-more s t order in
    let some : 1 ≤ occurrences s order = rw at (occurs order k d (omega arith)) in
    ap₂ (λ x xs. x ∷ xs) (get_or-set_other slots s t leaf [] (not_equal s t (omega arith)))
    (leaves_in-set slots order k s d leaf (λ u any. low u (omega (arith, occurrences-more u t order)))
    (omega arith) (omega arith) at)

pub slots-set : (slots : List (List Run)) (order free : List ℕ) (ls : List (List Run)) (k s : ℕ)
    (leaf : List Run) → AreSlots slots order free → leaves_in slots order ≡ ls → k < length ls
    → s ≡ get_or order k s
    → AreSlots (set slots s leaf) order free × (leaves_in (set slots s leaf) order ≡ set ls k leaf)
slots-set slots order free ls k s leaf are same lt at = (
  record { once = rw (length-set slots s leaf) are.once; count = are.count ∙ sym (length-set slots s leaf) },
  leaves_in-set slots order k s s leaf (λ t some. below slots order free t are some)
      (once slots order free s are) (omega (arith, count-leaves slots order ls same)) at
      ∙ ap (λ l. set l k leaf) same,
)

-- a leaf without records is added
pub slots-insert : (old new : List (List Run)) (order free free' : List ℕ) (ls : List (List Run)) (k s : ℕ)
    → AreSlots old order free → leaves_in old order ≡ ls → IsTaken old new free free' s
    → k ≤ length ls
    → AreSlots new (insert order k s) free' × (leaves_in new (insert order k s) ≡ insert ls k [])
slots-insert old new order free free' ls k s are same taken le =
    let slots = taken.slots order are in
    let none : occurrences s order ≡ 0 =
    omega (arith, once new (s ∷ order) free' s slots, occurrences-more s s order, same_slot s) in (
      record {
        once = record {
          each = λ t.
              let as_first = slots.once.each t in
              omega (
                arith,
                as_first,
                occurrences-append t (insert order k s) free',
                occurrences-insert t order k s,
                occurrences-append t (s ∷ order) free',
                occurrences-more t s order,
              );
        };
        count = omega (
          arith,
          slots.count,
          length-insert order k s (omega (arith, count-leaves old order ls same)),
        );
      },
      map-insert (leaf_at new) order k s
          ∙ ap₂ (λ xs x. insert xs k x) (leaves_in-others old new s order taken.others
          (λ t some. below old order free t are some) none ∙ same) taken.empty,
    )

-- a leaf is removed
pub slots-remove : (slots : List (List Run)) (order free : List ℕ) (ls : List (List Run)) (k s : ℕ)
    → AreSlots slots order free → leaves_in slots order ≡ ls → k < length ls → s ≡ get_or order k s
    → AreSlots slots (remove order k) (free ++ s ∷ [])
    × (leaves_in slots (remove order k) ≡ remove ls k)
slots-remove slots order free ls k s are same lt' at = let lt : k < length order =
    omega (arith, count-leaves slots order ls same) in (
      record {
        once = record {
          each = λ t.
              let before = are.once.each t in
              let gone : one_if_equal t s + occurrences t (remove order k) ≡ occurrences t order =
              rw (sym at) at (occurrences-remove t order k s lt) in
              omega (
                arith,
                before,
                gone,
                occurrences-append t order free,
                occurrences-append t (remove order k) (free ++ s ∷ []),
                occurrences-append t free (s ∷ []),
                occurrences-one t s,
              );
        };
        count = omega (arith, are.count, length-remove order k lt, length-append free (s ∷ []));
      },
      map-remove (leaf_at slots) order k ∙ ap (λ l. remove l k) same,
    )

-- the leaf in a free slot is in no slot of the order
pub empty-apart : (slots : List (List Run)) (order free : List ℕ) (k s d : ℕ) (leaf : List Run)
    → AreSlots slots order free → AreEmpty slots free → k < length order → s ≡ get_or order k d
    → AreEmpty (set slots s leaf) free
empty-apart slots order free k s d leaf are none lt at = λ j e within.
    let t = get_or free j e in
    let some : 1 ≤ occurrences s order = rw at (occurs order k d lt) in
    let apart : t ≢ s = λ same. absurd (omega (
      arith,
      rw same at (occurs free j e within),
      some,
      once-le (length slots) (order ++ free) s are.once,
      occurrences-append s order free,
    )) in
    get_or-set_other slots s t leaf [] apart ∙ none j e within

-- a leaf loses its records
cleared : (slots : List (List Run)) (s : ℕ) → leaf_at (set slots s []) s ≡ []
cleared [] s = refl
cleared (x ∷ slots) zero = refl
cleared (x ∷ slots) (suc s) = cleared slots s

stays-empty : (slots : List (List Run)) (s t : ℕ) → leaf_at slots t ≡ []
    → leaf_at (set slots s []) t ≡ []
stays-empty [] s t none = refl
stays-empty (x ∷ slots) zero zero none = refl
stays-empty (x ∷ slots) zero (suc t) none = none
stays-empty (x ∷ slots) (suc s) zero none = none
stays-empty (x ∷ slots) (suc s) (suc t) none = stays-empty slots s t none

-- the slot of a removed leaf is cleared as it becomes free
pub slots-clear : (slots : List (List Run)) (order free : List ℕ) (s : ℕ)
    → AreSlots slots order (free ++ s ∷ []) → AreEmpty slots free
    → AreSlots (set slots s []) order (free ++ s ∷ [])
    × (leaves_in (set slots s []) order ≡ leaves_in slots order)
    × AreEmpty (set slots s []) (free ++ s ∷ [])
slots-clear slots order free s are none = (
  record { once = rw (length-set slots s []) are.once; count = are.count ∙ sym (length-set slots s []) },
  leaves_in-others slots (set slots s []) s order (λ t _ apart. get_or-set_other slots s t [] [] apart)
      (λ t some. below slots order (free ++ s ∷ []) t are some)
      (omega (
        arith,
        once-le (length slots) (order ++ (free ++ s ∷ [])) s are.once,
        occurrences-append s order (free ++ s ∷ []),
        occurrences-append s free (s ∷ []),
        occurrences-one s s,
        same_slot s,
      )),
  λ k d lt. elim (cases_lt k (length free)) [
    | inl in' ↦ rw (get_or_append_left free (s ∷ []) d k in')
        (stays-empty slots s (get_or free k d) (none k d in'))
    | inr ge ↦ let last : k ≡ length free = omega (arith, ge, lt, length-append free (s ∷ [])) in
        rw (last, get_or-append_seam free s [] d) (cleared slots s)
  ],
)

-- a slot that was free
pub taken-free : (old : List (List Run)) (free free' : List ℕ) (s : ℕ) → AreEmpty old free
    → free ≡ free' ++ s ∷ [] → IsTaken old old free free' s
taken-free old free free' s none e = record {
  empty = rw get_or-append_seam at (rw e at (none (length free') s
      (omega (arith, ap length e, length-append free' (s ∷ [])))));
  others = λ t _ _. refl;
  slots = λ order are. record {
    once = record {
      each = λ t.
          let before = rw e at (are.once.each t) in
          omega (
            arith,
            before,
            occurrences-append t order (free' ++ s ∷ []),
            occurrences-append t free' (s ∷ []),
            occurrences-one t s,
            occurrences-append t (s ∷ order) free',
            occurrences-more t s order,
          );
    };
    count = omega (arith, are.count, ap length e, length-append free' (s ∷ []));
  };
}

pub empty-left : (old : List (List Run)) (free free' : List ℕ) (s : ℕ) → AreEmpty old free
    → free ≡ free' ++ s ∷ [] → AreEmpty old free'
empty-left old free free' s none e = λ k d lt.
    rw (get_or_append_left free' (s ∷ []) d k lt) at (rw e at (none k d
    (omega (arith, lt, ap length e, length-append free' (s ∷ [])))))

-- a new slot
pub taken-new : (old : List (List Run)) (free free' : List ℕ) → free ≡ free'
    → IsTaken old (old ++ [] ∷ []) free free' (length old)
taken-new old free free' e =
    let n : length (old ++ [] ∷ []) ≡ length old + 1 = length-append old ([] ∷ []) in record {
      empty = get_or-append_seam old [] [] [];
      others = λ t lt _. get_or_append_left old ([] ∷ []) [] t lt;
      slots = λ order are. record {
        once = record {
          each = λ t.
              let before = once_step t (length old) _ (are.once.each t) in
              rw (n, sym e) (omega (
                arith,
                before,
                occurrences-append t order free,
                occurrences-append t (length old ∷ order) free,
                occurrences-more t (length old) order,
              ));
        };
        count = omega (arith, are.count, ap length e, n);
      };
    }

stays-empty-before : (old : List (List Run)) (t : ℕ) → leaf_at old t ≡ []
    → leaf_at (old ++ [] ∷ []) t ≡ []
stays-empty-before [] zero none = refl
stays-empty-before [] (suc t) none = refl
stays-empty-before (x ∷ old) zero none = none
stays-empty-before (x ∷ old) (suc t) none = stays-empty-before old t none

pub empty-new : (old : List (List Run)) (free free' : List ℕ) → AreEmpty old free → free ≡ free'
    → AreEmpty (old ++ [] ∷ []) free'
empty-new old free free' none e = λ k d lt.
    stays-empty-before old (get_or free' k d) ((rw e at none) k d lt)

pub same-list : (a b : List (List Run)) (n m : ℕ) → a ≡ b → n ≡ m
    → let l : LeafRow = record { leaves = a; capacity = n } in
    let k : LeafRow = record { leaves = b; capacity = m } in l ≡ k
same-list a b n m e f =
    ap (λ x. record { leaves = x; capacity = n }) e ∙ ap (λ x. record { leaves = b; capacity = x }) f

pub slots-none : AreSlots [] [] []
slots-none = record { once = once-none; count = refl }
