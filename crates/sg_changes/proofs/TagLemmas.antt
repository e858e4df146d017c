-- A table of tags is an exact format, if each of its rows is.
use Rattle.std.proofs.Common.{◌≡◌, ℕ, ◌≤◌, ◌<◌, Bool, true, cond, eqb, List, [], ◌∷◌, ◌++◌, length}
use Rattle.std.proofs.Common.{Option, Some, refl, sym, ap, subst, ◌∙◌, arith, inl, inr}
use Rattle.std.proofs.lemmas.Bool.{cases_Bool, eqb-true}
use Rattle.sg_changes.specs.Format.{AreBytes, AreBytesOf, Format, IsExact, made, nothing, tagged}
use Rattle.sg_changes.proofs.FormatLemmas.{bind_some, pair_parts}
use Rattle.sg_changes.proofs.NumberLemmas.{rest_are_bytes}

same-rest : (x : Unit) (bytes rest : List ℕ) → nothing.at bytes ≡ Some (x, rest) → bytes ≡ rest
same-rest x bytes rest e = ap (λ (p : Unit × List ℕ). p.1) (pair_parts (tt, bytes) (x, rest) e)

pub nothing_exact : IsExact nothing
nothing_exact = record {
  reads_back = λ x rest possible. refl;
  has_one_spelling = λ bytes x rest are e. record {
    possible = refl;
    spelled = same-rest x bytes rest e;
    rest_bytes = subst AreBytes (same-rest x bytes rest e) are;
  };
  ends_within = λ bytes x rest e. omega (arith, ap length (same-rest x bytes rest e));
  ignores_rest = λ bytes x rest more e. ap (λ r. Some (tt, r ++ more)) (same-rest x bytes rest e);
}

pub made_some : {X Y : Type 0} (make : X → Y) (read : Option (X × List ℕ)) (y : Y) (rest : List ℕ)
    → made make read ≡ Some (y, rest) → (x : X) × (read ≡ Some (x, rest)) × (make x ≡ y)
made_some make read y rest e =
    let a = bind_some read (λ x. Some (make x.0, x.1)) (y, rest) e in
    let same : (make a.0.0, a.0.1) ≡ (y, rest) = pair_parts (make a.0.0, a.0.1) (y, rest) a.2 in
    (a.0.0, a.1 ∙ ap (λ (r : List ℕ). Some (a.0.0, r)) (ap (λ p. p.1) same), ap (λ p. p.0) same)

module _ {Y : Type 0} (bytes : Y → List ℕ) (is_possible : Y → Bool)
    (with_tag : ℕ → List ℕ → Option (Y × List ℕ)) where
  -- A row: a tag, and the format of what is made to a value.
  pub record IsRow {X : Type 0} (format : Format X) (make : X → Y) (tag : ℕ) : Type 0 where
    pub exact : IsExact format
    pub spelled : (x : X) → bytes (make x) ≡ tag ∷ format.bytes x
    pub possible : (x : X) → is_possible (make x) ≡ format.is_possible x
    pub read : (fields : List ℕ) → with_tag tag fields ≡ made make (format.at fields)

  module _
      -- Each tag that reads has a row.
      (row_with_tag : (P : Type 0) (tag : ℕ) (fields : List ℕ) (y : Y) (rest : List ℕ)
      → with_tag tag fields ≡ Some (y, rest)
      → ((X : Type 0) (format : Format X) (make : X → Y) → IsRow format make tag → P) → P)
      -- Each value is in a row.
      (row_of : (P : Type 0) (y : Y)
      → ((X : Type 0) (format : Format X) (make : X → Y) (tag : ℕ) → IsRow format make tag → (x : X)
      → make x ≡ y → P) → P) where
    again : (y : Y) (rest : List ℕ) → is_possible y ≡ true
        → (tagged bytes is_possible with_tag).at (bytes y ++ rest) ≡ Some (y, rest)
    again y rest possible =
        row_of ((tagged bytes is_possible with_tag).at (bytes y ++ rest) ≡ Some (y, rest)) y
        (λ X format make tag row x same.
        subst (λ z. (tagged bytes is_possible with_tag).at (bytes z ++ rest) ≡ Some (z, rest)) same
        (ap (λ bs. (tagged bytes is_possible with_tag).at (bs ++ rest)) (row.spelled x)
        ∙ row.read (format.bytes x ++ rest)
        ∙ ap (made make) (row.exact.reads_back x rest
        (sym (row.possible x) ∙ ap is_possible same ∙ possible))))

    spelled-by : (tag : ℕ) (fields : List ℕ) (y : Y) (rest : List ℕ) → AreBytes (tag ∷ fields)
        → with_tag tag fields ≡ Some (y, rest)
        → AreBytesOf (tagged bytes is_possible with_tag) (tag ∷ fields) y rest
    spelled-by tag fields y rest are e =
        row_with_tag (AreBytesOf (tagged bytes is_possible with_tag) (tag ∷ fields) y rest) tag fields y
        rest e
        (λ X format make row.
        let p = made_some make (format.at fields) y rest (sym (row.read fields) ∙ e) in
        let a = row.exact.has_one_spelling fields p.0 rest (rest_are_bytes tag fields are) p.1 in
        subst (λ z. AreBytesOf (tagged bytes is_possible with_tag) (tag ∷ fields) z rest) p.2 (record {
          possible = row.possible p.0 ∙ a.possible;
          spelled = ap (λ bs. tag ∷ bs) a.spelled ∙ ap (λ bs. bs ++ rest) (sym (row.spelled p.0));
          rest_bytes = a.rest_bytes;
        }))

    within-by : (tag : ℕ) (fields : List ℕ) (y : Y) (rest : List ℕ) → with_tag tag fields ≡ Some (y, rest)
        → length rest ≤ length fields
    within-by tag fields y rest e =
        row_with_tag (length rest ≤ length fields) tag fields y rest e (λ X format make row.
        let p = made_some make (format.at fields) y rest (sym (row.read fields) ∙ e) in
        row.exact.ends_within fields p.0 rest p.1)

    more-by : (tag : ℕ) (fields : List ℕ) (y : Y) (rest more : List ℕ) → with_tag tag fields ≡ Some (y, rest)
        → with_tag tag (fields ++ more) ≡ Some (y, rest ++ more)
    more-by tag fields y rest more e =
        row_with_tag (with_tag tag (fields ++ more) ≡ Some (y, rest ++ more)) tag fields y rest e
        (λ X format make row.
        let p = made_some make (format.at fields) y rest (sym (row.read fields) ∙ e) in
        row.read (fields ++ more) ∙ ap (made make) (row.exact.ignores_rest fields p.0 rest more p.1)
        ∙ ap (λ z. Some (z, rest ++ more)) p.2)

    spelled-at : (bs : List ℕ) (y : Y) (rest : List ℕ) → AreBytes bs
        → (tagged bytes is_possible with_tag).at bs ≡ Some (y, rest)
        → AreBytesOf (tagged bytes is_possible with_tag) bs y rest
    spelled-at [] y rest are e = absurd cc
    spelled-at (tag ∷ fields) y rest are e = spelled-by tag fields y rest are e

    -- a value is shorter than its bytes, by its tag at least
    pub tagged_shorter : (bs : List ℕ) (y : Y) (rest : List ℕ)
        → (tagged bytes is_possible with_tag).at bs ≡ Some (y, rest) → length rest < length bs
    tagged_shorter [] y rest e = absurd cc
    tagged_shorter (tag ∷ fields) y rest e = omega (arith, within-by tag fields y rest e)

    more-at : (bs : List ℕ) (y : Y) (rest more : List ℕ)
        → (tagged bytes is_possible with_tag).at bs ≡ Some (y, rest)
        → (tagged bytes is_possible with_tag).at (bs ++ more) ≡ Some (y, rest ++ more)
    more-at [] y rest more e = absurd cc
    more-at (tag ∷ fields) y rest more e = more-by tag fields y rest more e

    pub tagged_exact : IsExact (tagged bytes is_possible with_tag)
    tagged_exact = record {
      reads_back = again;
      has_one_spelling = spelled-at;
      ends_within = λ bs y rest e. omega (arith, tagged_shorter bs y rest e);
      ignores_rest = more-at;
    }

-- ---- Rows of a table that compares its tags one after another

-- The row is this one, or one of those after it.
pub chosen : {A : Type 0} (P : Type 0) (tag number : ℕ) (one others : Option A) (r : A)
    → cond (eqb tag number) one others ≡ Some r → (tag ≡ number → P) → (others ≡ Some r → P) → P
chosen {A = A} P tag number one others r e here there = elim (cases_Bool (eqb tag number)) [
  | inl same ↦ here (eqb-true tag number same)
  | inr other ↦ there (ap (λ (b : Bool). cond b one others) (sym other) ∙ e)
]
