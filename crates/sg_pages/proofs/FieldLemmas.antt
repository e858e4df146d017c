-- The first byte of the field of a byte that is at fault.
use Rattle.std.proofs.Common.{◌≡◌, ◌≤◌, ◌<◌, ℕ, ◌+◌, ◌-◌, min, List, [], ◌∷◌, ◌++◌, length}
use Rattle.std.proofs.Common.{take, drop, Bool, true, false, cond, refl, sym, ap, ◌∙◌}
use Rattle.std.proofs.Common.{arith, inl, inr, ◌⊎◌, subst, map}
use Rattle.std.specs.Prelude.{Option, Some, None, IfSome, Ok, Err}
use Rattle.std.specs.Option.{option_or, option_map, option_map_or}
use Rattle.std.proofs.lemmas.List.{length-take, length-drop}
use Rattle.std.proofs.lemmas.Bool.{cases_lt, lt-ltb, le-ltb, le-leb, lt-leb}
use Rattle.std.proofs.lemmas.Bool.{and_from, and_left, and_right}
use Rattle.sg_pages.specs.declared.mode_pages.mode_select.ModeSelectFault.{ModeSelectFault}
use Rattle.sg_pages.specs.declared.mode_pages.mode_select.ModeSelectFault.TheVariants.{Field}
use Rattle.sg_pages.specs.declared.mode_pages.multi_byte_field.MultiByteField.{MultiByteField}
use Rattle.sg_pages.specs.MultiByteField.{has_byte, first_byte_of, first_byte_in}
use Rattle.sg_pages.specs.ModeSelect.{Part, part_at, differences, truncation_of, part_faults, field_faults}
use Rattle.sg_pages.specs.ModeSelect.{least, fault_at, first_fault, unless_fault}
use Rattle.sg_pages.specs.SentValues.{pointed_fault}
use Rattle.sg_pages.proofs.FaultLemmas.{From, Below, From-append, From-weaker, Below-append}
use Rattle.sg_pages.proofs.FaultLemmas.{Below-weaker, least-append, least-below, least-from}
use Rattle.sg_pages.proofs.FaultLemmas.{least-none, field}
use Rattle.sg_pages.proofs.FaultLemmas.{differences-from, differences-below, truncation_of-from}
use Rattle.sg_pages.proofs.FaultLemmas.{truncation_of-below, part-different, part-short, part-whole}

-- ---- The first byte of a field

has-cases : (f : MultiByteField) (byte : ℕ)
    → ((has_byte f byte ≡ true) × ((f.first ≤ byte) × (byte < f.first + f.size)))
    ⊎ ((has_byte f byte ≡ false) × ((byte < f.first) ⊎ (f.first + f.size ≤ byte)))
has-cases f byte =
    elim (cases_lt byte f.first) as
    (λ _. ((has_byte f byte ≡ true) × ((f.first ≤ byte) × (byte < f.first + f.size)))
    ⊎ ((has_byte f byte ≡ false) × ((byte < f.first) ⊎ (f.first + f.size ≤ byte)))) [
      | inl less ↦ inr (and_left _ _ (lt-leb f.first byte less), inl less)
      | inr from ↦
          elim (cases_lt byte (f.first + f.size)) as
          (λ _. ((has_byte f byte ≡ true) × ((f.first ≤ byte) × (byte < f.first + f.size)))
          ⊎ ((has_byte f byte ≡ false) × ((byte < f.first) ⊎ (f.first + f.size ≤ byte)))) [
            | inl below ↦ inl (
              and_from _ _ (le-leb f.first byte from)
                  (lt-ltb byte (f.first + f.size) below),
              (from, below),
            )
            | inr behind ↦ inr (and_right _ _ (le-ltb byte (f.first + f.size) behind), inr behind)
          ]
    ]

abbrev step : (c : Bool) (first rest : ℕ) → ℕ
step c first rest = cond c (min first rest) rest

step-at-most : (c : Bool) (first rest byte : ℕ) → rest ≤ byte → step c first rest ≤ byte
step-at-most true first rest byte h = omega arith
step-at-most false first rest byte h = h

pub at-most : (fields : List MultiByteField) (byte : ℕ) → first_byte_of fields byte ≤ byte
at-most [] byte = omega arith
at-most (f ∷ fields) byte =
    step-at-most (has_byte f byte) f.first (first_byte_of fields byte) byte (at-most fields byte)

-- a later byte has no earlier field
pub rises : (fields : List MultiByteField) (m n : ℕ) → m ≤ n
    → first_byte_of fields m ≤ first_byte_of fields n
rises [] m n h = h
rises (f ∷ fields) m n h = by (has-cases f m) (has-cases f n) (rises fields m n h)
  where
    x : ℕ
    x = first_byte_of fields m

    y : ℕ
    y = first_byte_of fields n

    to : (c d : Bool) → has_byte f m ≡ c → has_byte f n ≡ d → step c f.first x ≤ step d f.first y
        → first_byte_of (f ∷ fields) m ≤ first_byte_of (f ∷ fields) n
    to c d e g k = rw (e, g) k

    by : ((has_byte f m ≡ true) × ((f.first ≤ m) × (m < f.first + f.size)))
        ⊎ ((has_byte f m ≡ false) × ((m < f.first) ⊎ (f.first + f.size ≤ m)))
        → ((has_byte f n ≡ true) × ((f.first ≤ n) × (n < f.first + f.size)))
        ⊎ ((has_byte f n ≡ false) × ((n < f.first) ⊎ (f.first + f.size ≤ n)))
        → x ≤ y → first_byte_of (f ∷ fields) m ≤ first_byte_of (f ∷ fields) n
    by (inl (e, k)) (inl (g, l)) rest = to true true e g (omega (arith, rest))
    by (inl (e, k)) (inr (g, l)) rest = to true false e g (omega (arith, rest))
    by (inr (e, k)) (inr (g, l)) rest = to false false e g rest
    by (inr (e, inl less)) (inl (g, l)) rest =
        to false true e g (omega (arith, rest, at-most fields m, less))
    by (inr (e, inr behind)) (inl (g, (l, below))) rest =
        absurd (omega (arith, behind, below, h))

-- ---- In a part

rises-in : (fields : List MultiByteField) (base m n : ℕ) → m ≤ n
    → first_byte_in fields base m ≤ first_byte_in fields base n
rises-in fields base m n h =
    omega (arith, rises fields (m - base) (n - base) (omega arith))

map-from : (fields : List MultiByteField) (base : ℕ) (xs : List ℕ)
    → From base (map (first_byte_in fields base) xs)
map-from fields base [] = tt
map-from fields base (x ∷ xs) = (omega arith, map-from fields base xs)

map-below : (fields : List MultiByteField) (base n : ℕ) (xs : List ℕ) → From base xs → Below n xs
    → Below n (map (first_byte_in fields base) xs)
map-below fields base n [] h k = tt
map-below fields base n (x ∷ xs) (h, hs) (k, ks) =
    (omega (arith, at-most fields (x - base)), map-below fields base n xs hs ks)

pub field_faults-from : (fields : List MultiByteField) (expected ignored : List ℕ)
    (offset size : ℕ) (list : List ℕ)
    → From offset (field_faults fields expected ignored (part_at offset size list))
field_faults-from fields expected ignored offset size list =
    let p = part_at offset size list in
    From-append offset _ (truncation_of p)
    (map-from fields offset (differences offset expected ignored p.bytes))
    (From-weaker (offset + length p.bytes) offset (truncation_of p) (omega arith)
    (truncation_of-from p))

pub field_faults-below : (fields : List MultiByteField) (expected ignored : List ℕ)
    (offset size : ℕ) (list : List ℕ)
    → Below (offset + size) (field_faults fields expected ignored (part_at offset size list))
field_faults-below fields expected ignored offset size list =
    let p = part_at offset size list in
    let different = differences offset expected ignored p.bytes in
    Below-append (offset + size) _ (truncation_of p)
    (map-below fields offset (offset + size) different
    (differences-from offset expected ignored p.bytes)
    (Below-weaker (offset + length p.bytes) (offset + size) different
    (omega (arith, length-take size (drop offset list)))
    (differences-below offset expected ignored p.bytes)))
    (truncation_of-below p)

-- without fields each byte points to itself
itself : (base : ℕ) (xs : List ℕ) → From base xs → map (first_byte_in [] base) xs ≡ xs
itself base [] h = refl
itself base (x ∷ xs) (h, hs) =
    let same : base + (x - base) ≡ x = omega arith in
    ap (λ y. y ∷ map (first_byte_in [] base) xs) same ∙ ap (λ ys. x ∷ ys) (itself base xs hs)

pub without-fields : (expected ignored : List ℕ) (p : Part)
    → field_faults [] expected ignored p ≡ part_faults expected ignored p
without-fields expected ignored p =
    ap (λ xs. xs ++ truncation_of p) (itself p.offset (differences p.offset expected ignored p.bytes)
    (differences-from p.offset expected ignored p.bytes))

-- ---- The least of them

min-rises : (fields : List MultiByteField) (base x : ℕ) (o : Option ℕ)
    → option_map_or (min (first_byte_in fields base x)) (option_map (first_byte_in fields base) o)
    (first_byte_in fields base x)
    ≡ first_byte_in fields base (option_map_or (min x) o x)
min-rises fields base x None = refl
min-rises fields base x (Some m) =
    let at = first_byte_in fields base in
    elim (cases_lt x m) as (λ _. min (at x) (at m) ≡ at (min x m)) [
      | inl less ↦
          let least_is : x ≡ min x m = omega arith in
          let low : min (at x) (at m) ≡ at x =
          omega (arith, rises-in fields base x m (omega arith)) in
          low ∙ ap at least_is
      | inr more ↦
          let least_is : m ≡ min x m = omega arith in
          let low : min (at x) (at m) ≡ at m = omega (arith, rises-in fields base m x more) in
          low ∙ ap at least_is
    ]

least-map : (fields : List MultiByteField) (base : ℕ) (xs : List ℕ)
    → least (map (first_byte_in fields base) xs) ≡ option_map (first_byte_in fields base) (least xs)
least-map fields base [] = refl
least-map fields base (x ∷ xs) =
    ap (λ o. Some (option_map_or (min (first_byte_in fields base x)) o (first_byte_in fields base x)))
    (least-map fields base xs)
    ∙ ap Some (min-rises fields base x (least xs))

-- ---- The first fault of a part points to the first byte of its field

pub pointed : (fields : List MultiByteField) (expected ignored : List ℕ) (offset size : ℕ)
    (list : List ℕ) → offset ≤ length list
    → (let p = part_at offset size list in
    first_fault (length list) (field_faults fields expected ignored p)
    ≡ option_map (pointed_fault fields offset)
    (first_fault (length list) (part_faults expected ignored p)))
unfolding first_fault
pointed fields expected ignored offset size list h =
    by (least (differences offset expected ignored (take size (drop offset list)))) refl
  where
    bytes : List ℕ
    bytes = take size (drop offset list)

    different : List ℕ
    different = differences offset expected ignored bytes

    end : List ℕ
    end = truncation_of (part_at offset size list)

    n : ℕ
    n = length list

    far : ℕ
    far = offset + length bytes

    raw : Option ModeSelectFault
    raw = first_fault n (part_faults expected ignored (part_at offset size list))

    mapped : Option ModeSelectFault
    mapped = option_map (fault_at n) (least (map (first_byte_in fields offset) different ++ end))

    to-field : (d : ℕ) → d < far → offset ≤ d → Some d ≡ least different
        → mapped ≡ Some (Field (first_byte_in fields offset d))
    to-field d below from e =
        let inside : first_byte_in fields offset d < n =
        omega (
          arith,
          at-most fields (d - offset),
          length-take size (drop offset list),
          length-drop offset list,
        ) in
        ap (option_map (fault_at n))
        (least-append far (map (first_byte_in fields offset) different) end
        (map-below fields offset far different (differences-from offset expected ignored bytes)
        (differences-below offset expected ignored bytes))
        (truncation_of-from (part_at offset size list))
        ∙ ap (λ o. option_or o (least end))
        (least-map fields offset different ∙ ap (option_map (first_byte_in fields offset)) (sym e)))
        ∙ ap Some (field n (first_byte_in fields offset d) inside)

    same : different ≡ [] → mapped ≡ raw
    same e =
        ap (λ xs. option_map (fault_at n) (least (map (first_byte_in fields offset) xs ++ end))) e
        ∙ sym (ap (λ xs. option_map (fault_at n) (least (xs ++ end))) e)

    by : (o : Option ℕ) → o ≡ least different
        → mapped ≡ option_map (pointed_fault fields offset) raw
    by (Some d) e =
        let below : IfSome (Some d) (λ m. m < far) =
        subst (λ (o : Option ℕ). IfSome o (λ m. m < far)) (sym e)
        (least-below far different (differences-below offset expected ignored bytes)) in
        let from : IfSome (Some d) (λ m. offset ≤ m) =
        subst (λ (o : Option ℕ). IfSome o (λ m. offset ≤ m)) (sym e)
        (least-from offset different (differences-from offset expected ignored bytes)) in
        to-field d below from e
        ∙ sym (ap (option_map (pointed_fault fields offset))
        (part-different expected ignored offset size list d h e))
    by None e =
        elim (cases_lt (length bytes) size) as
        (λ _. mapped ≡ option_map (pointed_fault fields offset) raw) [
          | inl short ↦
              let known = part-short expected ignored offset size list h e short in
              same (least-none different e)
              ∙ (known ∙ sym (ap (option_map (pointed_fault fields offset)) known))
          | inr whole ↦
              let known = part-whole expected ignored offset size list e whole in
              same (least-none different e)
              ∙ (known ∙ sym (ap (option_map (pointed_fault fields offset)) known))
        ]

-- ---- The result of a check with such faults

pub pointed-ok : {A : Type 0} (o w : Option ModeSelectFault)
    (f : ModeSelectFault → ModeSelectFault) (x v : A) → w ≡ option_map f o
    → Ok x ≡ unless_fault o v → Ok x ≡ unless_fault w v
pointed-ok None w f x v e h = h ∙ sym (ap (λ o. unless_fault o v) e)
pointed-ok (Some g) w f x v e h = cc

pub pointed-err : {A : Type 0} (o w : Option ModeSelectFault)
    (f : ModeSelectFault → ModeSelectFault) (fault : ModeSelectFault) (v : A) → w ≡ option_map f o
    → Err fault ≡ unless_fault o v → Err (f fault) ≡ unless_fault w v
pointed-err None w f fault v e h = cc
pointed-err (Some g) w f fault v e h =
    let same : fault ≡ g = cc in
    ap (λ g. Err (f g)) same ∙ sym (ap (λ o. unless_fault o v) e)
