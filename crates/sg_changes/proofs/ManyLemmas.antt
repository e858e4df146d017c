-- Numbers below a limit, flags, values that may be absent, and several values are exact formats.
use Rattle.std.proofs.Common.{◌≡◌, ℕ, zero, suc, ◌<◌, ◌≤◌, Bool, true, false, cond, ltb, leb, eqb}
use Rattle.std.proofs.Common.{List, [], ◌∷◌, ◌++◌, length, Option, Some, None}
use Rattle.std.proofs.Common.{refl, sym, ap, subst, ◌∙◌, arith, append_assoc}
use Rattle.std.specs.List.{flat_map, list_all}
use Rattle.std.proofs.lemmas.Bool.{and_parts, eq-eqb, eqb-true, leb-true, lt-ltb}
use Rattle.std.proofs.lemmas.List.Concat.{flat_map-cons}
use Rattle.std.proofs.lemmas.Option.{cond_some}
use Rattle.byteorder.specs.Endian.{big_bytes}
use Rattle.sg_changes.specs.Format.{AreBytes, AreBytesOf, Format, IsExact, ◌>>=◌}
use Rattle.sg_changes.specs.Format.{bool_of, counted, counted_at, flag, many, many_at}
use Rattle.sg_changes.specs.Format.{number, number_at, number_below, only, optional, optional_at, passing}
use Rattle.sg_changes.proofs.FormatLemmas.{bind_some, both_true, coded_exact, number_exact, pair_parts}

-- ---- Values that pass a test

passing-back : {X : Type 0} (test : X → Bool) (x y : X) → passing test x ≡ Some y → passing test y ≡ Some x
passing-back test x y e =
    let p = cond_some (test x) x y e in
    subst (λ z. passing test z ≡ Some x) p.1 (ap (λ b. cond b (Some x) None) p.0)

pub only_exact : {X : Type 0} (test : X → Bool) (format : Format X) → IsExact format
    → IsExact (only test format)
only_exact test format exact =
    coded_exact (passing test) (passing test) format exact (passing-back test)
    (λ x y e. passing-back test y x e)

pub number_below_exact : (limit : ℕ) → IsExact (number_below limit)
number_below_exact limit = only_exact (λ n. ltb n limit) (number 1) (number_exact 1)

-- ---- A flag

flag-back : (x : ℕ) (b : Bool) → bool_of x ≡ Some b → Some (cond b 1 0) ≡ Some x
flag-back zero b e = let f : false ≡ b = cc in ap (λ c. Some (cond c 1 0)) (sym f)
flag-back (suc zero) b e = let f : true ≡ b = cc in ap (λ c. Some (cond c 1 0)) (sym f)
flag-back (suc (suc x)) b e = absurd cc

flag-forth : (x : ℕ) (b : Bool) → Some (cond b 1 0) ≡ Some x → bool_of x ≡ Some b
flag-forth x true e = let f : 1 ≡ x = cc in ap bool_of (sym f)
flag-forth x false e = let f : 0 ≡ x = cc in ap bool_of (sym f)

pub flag_exact : IsExact flag
flag_exact = coded_exact bool_of (λ b. Some (cond b 1 0)) (number 1) (number_exact 1) flag-back flag-forth

-- ---- A value that may be absent

module _ {X : Type 0} (format : Format X) where
  abbrev and-value : Bool × List ℕ → Option (Option X × List ℕ)
  and-value p = cond p.0 (format.at p.1 >>= λ x. Some (Some x.0, x.1)) (Some (None, p.1))

  data IsOptional (bytes : List ℕ) : Option X → List ℕ → Type 0 where
    Absent : (rest : List ℕ) → flag.at bytes ≡ Some (false, rest) → IsOptional bytes None rest
    Present : (x : X) (middle rest : List ℕ) → flag.at bytes ≡ Some (true, middle)
        → format.at middle ≡ Some (x, rest) → IsOptional bytes (Some x) rest

  by-flag : (b : Bool) (bytes middle : List ℕ) (o : Option X) (rest : List ℕ)
      → flag.at bytes ≡ Some (b, middle) → and-value (b, middle) ≡ Some (o, rest) → IsOptional bytes o rest
  by-flag true bytes middle o rest e f =
      let a = bind_some (format.at middle) (λ x. Some (Some x.0, x.1)) (o, rest) f in
      let same : (Some a.0.0, a.0.1) ≡ (o, rest) = pair_parts (Some a.0.0, a.0.1) (o, rest) a.2 in
      subst (λ (q : Option X × List ℕ). IsOptional bytes q.0 q.1) same (Present a.0.0 middle a.0.1 e a.1)
  by-flag false bytes middle o rest e f =
      let same : (None, middle) ≡ (o, rest) = pair_parts (None, middle) (o, rest) f in
      subst (λ (q : Option X × List ℕ). IsOptional bytes q.0 q.1) same (Absent middle e)

  optional-parts : (bytes : List ℕ) (o : Option X) (rest : List ℕ) → optional_at format bytes ≡ Some (o, rest)
      → IsOptional bytes o rest
  unfolding optional_at
  optional-parts bytes o rest e =
      let a = bind_some (flag.at bytes) and-value (o, rest) e in
      by-flag a.0.0 bytes a.0.1 o rest a.1 a.2

  optional-is : (bytes : List ℕ) (o : Option X) (rest : List ℕ) → IsOptional bytes o rest
      → optional_at format bytes ≡ Some (o, rest)
  unfolding optional_at
  optional-is bytes None rest (Absent _ e) = ap (λ (r : Option (Bool × List ℕ)). r >>= and-value) e
  optional-is bytes (Some x) rest (Present _ middle _ e f) =
      ap (λ (r : Option (Bool × List ℕ)). r >>= and-value) e
      ∙ ap (λ (r : Option (X × List ℕ)). r >>= λ x. Some (Some x.0, x.1)) f

  module _ (exact : IsExact format) where
    optional-again : (o : Option X) (rest : List ℕ) → (optional format).is_possible o ≡ true
        → optional_at format ((optional format).bytes o ++ rest) ≡ Some (o, rest)
    optional-again None rest possible =
        optional-is (0 ∷ rest) None rest (Absent rest (flag_exact.reads_back false rest refl))
    optional-again (Some x) rest possible =
        optional-is (1 ∷ format.bytes x ++ rest) (Some x) rest
        (Present x (format.bytes x ++ rest) rest (flag_exact.reads_back true (format.bytes x ++ rest) refl)
        (exact.reads_back x rest possible))

    optional-spelled : (bytes : List ℕ) (o : Option X) (rest : List ℕ) → AreBytes bytes
        → IsOptional bytes o rest → AreBytesOf (optional format) bytes o rest
    optional-spelled bytes None rest are (Absent _ e) =
        let a = flag_exact.has_one_spelling bytes false rest are e in
        record { possible = refl; spelled = a.spelled; rest_bytes = a.rest_bytes }
    optional-spelled bytes (Some x) rest are (Present _ middle _ e f) =
        let a = flag_exact.has_one_spelling bytes true middle are e in
        let b = exact.has_one_spelling middle x rest a.rest_bytes f in
        record {
          possible = b.possible;
          spelled = a.spelled ∙ ap (λ m. 1 ∷ m) b.spelled;
          rest_bytes = b.rest_bytes;
        }

    optional-within : (bytes : List ℕ) (o : Option X) (rest : List ℕ) → IsOptional bytes o rest
        → length rest ≤ length bytes
    optional-within bytes None rest (Absent _ e) = flag_exact.ends_within bytes false rest e
    optional-within bytes (Some x) rest (Present _ middle _ e f) =
        omega (arith, flag_exact.ends_within bytes true middle e, exact.ends_within middle x rest f)

    optional-more : (bytes : List ℕ) (o : Option X) (rest more : List ℕ) → IsOptional bytes o rest
        → IsOptional (bytes ++ more) o (rest ++ more)
    optional-more bytes None rest more (Absent _ e) =
        Absent (rest ++ more) (flag_exact.ignores_rest bytes false rest more e)
    optional-more bytes (Some x) rest more (Present _ middle _ e f) =
        Present x (middle ++ more) (rest ++ more) (flag_exact.ignores_rest bytes true middle more e)
        (exact.ignores_rest middle x rest more f)

    pub optional_exact : IsExact (optional format)
    optional_exact = record {
      reads_back = optional-again;
      has_one_spelling = λ bytes o rest are e. optional-spelled bytes o rest are
          (optional-parts bytes o rest e);
      ends_within = λ bytes o rest e. optional-within bytes o rest (optional-parts bytes o rest e);
      ignores_rest = λ bytes o rest more e.
          optional-is (bytes ++ more) o (rest ++ more)
          (optional-more bytes o rest more (optional-parts bytes o rest e));
    }

-- ---- Several values

module _ {X : Type 0} (format : Format X) where
  abbrev and-others : ℕ → X × List ℕ → Option (List X × List ℕ)
  and-others n x = many_at format n x.1 >>= λ xs. Some (x.0 ∷ xs.0, xs.1)

  record IsMore (n : ℕ) (bytes : List ℕ) (x : X) (xs : List X) (rest : List ℕ) : Type 0 where
    middle : List ℕ
    one : format.at bytes ≡ Some (x, middle)
    others : many_at format n middle ≡ Some (xs, rest)

  more-is : (n : ℕ) (bytes : List ℕ) (x : X) (xs : List X) (rest : List ℕ) → IsMore n bytes x xs rest
      → many_at format (suc n) bytes ≡ Some (x ∷ xs, rest)
  unfolding many_at
  more-is n bytes x xs rest is =
      ap (λ (r : Option (X × List ℕ)). r >>= and-others n) is.one
      ∙ ap (λ (r : Option (List X × List ℕ)). r >>= λ xs. Some (x ∷ xs.0, xs.1)) is.others

  more-parts : (P : List X → List ℕ → Type 0) (n : ℕ) (bytes : List ℕ) (xs : List X) (rest : List ℕ)
      → many_at format (suc n) bytes ≡ Some (xs, rest)
      → ((y : X) (ys : List X) (r : List ℕ) → IsMore n bytes y ys r → P (y ∷ ys) r) → P xs rest
  unfolding many_at
  more-parts P n bytes xs rest e then =
      let a = bind_some (format.at bytes) (and-others n) (xs, rest) e in
      let b = bind_some (many_at format n a.0.1) (λ ys. Some (a.0.0 ∷ ys.0, ys.1)) (xs, rest) a.2 in
      let same : (a.0.0 ∷ b.0.0, b.0.1) ≡ (xs, rest) = pair_parts (a.0.0 ∷ b.0.0, b.0.1) (xs, rest) b.2 in
      subst (λ (q : List X × List ℕ). P q.0 q.1) same
      (then a.0.0 b.0.0 b.0.1 (record { middle = a.0.1; one = a.1; others = b.1 }))

  none-parts : (P : List X → List ℕ → Type 0) (bytes : List ℕ) (xs : List X) (rest : List ℕ)
      → many_at format zero bytes ≡ Some (xs, rest) → P [] bytes → P xs rest
  unfolding many_at
  none-parts P bytes xs rest e is =
      let same : ([], bytes) ≡ (xs, rest) = pair_parts ([], bytes) (xs, rest) e in
      subst (λ (q : List X × List ℕ). P q.0 q.1) same is

  module _ (exact : IsExact format) where
    many-again : (xs : List X) (rest : List ℕ) → list_all format.is_possible xs ≡ true
        → many_at format (length xs) (flat_map format.bytes xs ++ rest) ≡ Some (xs, rest)
    unfolding many_at
    many-again [] rest possible = refl
    many-again (x ∷ xs) rest possible =
        let parts = and_parts (format.is_possible x) (list_all format.is_possible xs) possible in
        let behind : List ℕ = flat_map format.bytes xs ++ rest in
        ap (many_at format (suc (length xs)))
        (ap (λ bs. bs ++ rest) (flat_map-cons format.bytes x xs)
        ∙ append_assoc (format.bytes x) (flat_map format.bytes xs) rest)
        ∙ more-is (length xs) (format.bytes x ++ behind) x xs rest (record {
          middle = behind;
          one = exact.reads_back x behind parts.0;
          others = many-again xs rest parts.1;
        })

    record AreMany (n : ℕ) (bytes : List ℕ) (xs : List X) (rest : List ℕ) : Type 0 where
      count : length xs ≡ n
      possible : list_all format.is_possible xs ≡ true
      spelled : bytes ≡ flat_map format.bytes xs ++ rest
      rest_bytes : AreBytes rest

    many-spelled : (n : ℕ) (bytes : List ℕ) (xs : List X) (rest : List ℕ) → AreBytes bytes
        → many_at format n bytes ≡ Some (xs, rest) → AreMany n bytes xs rest
    many-spelled zero bytes xs rest are e =
        none-parts (AreMany zero bytes) bytes xs rest e
        (record { count = refl; possible = refl; spelled = refl; rest_bytes = are })
    many-spelled (suc n) bytes xs rest are e =
        more-parts (AreMany (suc n) bytes) n bytes xs rest e (λ y ys r is.
        let a = exact.has_one_spelling bytes y is.middle are is.one in
        let b = many-spelled n is.middle ys r a.rest_bytes is.others in
        record {
          count = ap suc b.count;
          possible = both_true (format.is_possible y) (list_all format.is_possible ys) a.possible b.possible;
          spelled = a.spelled ∙ ap (λ m. format.bytes y ++ m) b.spelled
              ∙ sym (append_assoc (format.bytes y) (flat_map format.bytes ys) r)
              ∙ ap (λ bs. bs ++ r) (sym (flat_map-cons format.bytes y ys));
          rest_bytes = b.rest_bytes;
        })

    many-within : (n : ℕ) (bytes : List ℕ) (xs : List X) (rest : List ℕ)
        → many_at format n bytes ≡ Some (xs, rest) → length rest ≤ length bytes
    many-within zero bytes xs rest e =
        none-parts (λ _ r. length r ≤ length bytes) bytes xs rest e (omega arith)
    many-within (suc n) bytes xs rest e =
        more-parts (λ _ r. length r ≤ length bytes) n bytes xs rest e (λ y ys r is.
        let a = exact.ends_within bytes y is.middle is.one in
        let b = many-within n is.middle ys r is.others in
        omega (arith, a, b))

    many-more : (n : ℕ) (bytes : List ℕ) (xs : List X) (rest more : List ℕ)
        → many_at format n bytes ≡ Some (xs, rest)
        → many_at format n (bytes ++ more) ≡ Some (xs, rest ++ more)
    unfolding many_at
    many-more zero bytes xs rest more e =
        none-parts (λ ys r. many_at format zero (bytes ++ more) ≡ Some (ys, r ++ more)) bytes xs rest e refl
    many-more (suc n) bytes xs rest more e =
        more-parts (λ ys r. many_at format (suc n) (bytes ++ more) ≡ Some (ys, r ++ more)) n bytes xs rest e
        (λ y ys r is. more-is n (bytes ++ more) y ys (r ++ more) (record {
          middle = is.middle ++ more;
          one = exact.ignores_rest bytes y is.middle more is.one;
          others = many-more n is.middle ys r more is.others;
        }))

    many-counted : (n : ℕ) (xs : List X) (rest : List ℕ) → (many n format).is_possible xs ≡ true
        → many_at format n (flat_map format.bytes xs ++ rest) ≡ Some (xs, rest)
    many-counted n xs rest possible =
        let parts = and_parts (eqb (length xs) n) (list_all format.is_possible xs) possible in
        subst (λ m. many_at format m (flat_map format.bytes xs ++ rest) ≡ Some (xs, rest))
        (eqb-true (length xs) n parts.0) (many-again xs rest parts.1)

    pub many_exact : (n : ℕ) → IsExact (many n format)
    many_exact n = record {
      reads_back = many-counted n;
      has_one_spelling = λ bytes xs rest are e. let is = many-spelled n bytes xs rest are e in record {
        possible = both_true (eqb (length xs) n) (list_all format.is_possible xs)
            (eq-eqb (length xs) n is.count)
            is.possible;
        spelled = is.spelled;
        rest_bytes = is.rest_bytes;
      };
      ends_within = many-within n;
      ignores_rest = many-more n;
    }

    -- ---- Several values after their number

    module _ (most : ℕ) (small : most < 256) where
      record AreCounted (bytes : List ℕ) (xs : List X) (rest : List ℕ) : Type 0 where
        count : ℕ
        middle : List ℕ
        number_read : number_at 1 bytes ≡ Some (count, middle)
        within : leb count most ≡ true
        read : many_at format count middle ≡ Some (xs, rest)

      abbrev and-many : ℕ × List ℕ → Option (List X × List ℕ)
      and-many n = cond (leb n.0 most) (many_at format n.0 n.1) None

      if-some : {A : Type 0} (b : Bool) (o : Option A) (y : A) → cond b o None ≡ Some y → (b ≡ true)
          × (o ≡ Some y)
      if-some true o y e = (refl, e)
      if-some false o y e = absurd cc

      counted-parts : (bytes : List ℕ) (xs : List X) (rest : List ℕ)
          → counted_at most format bytes ≡ Some (xs, rest) → AreCounted bytes xs rest
      unfolding counted_at
      counted-parts bytes xs rest e =
          let a = bind_some (number_at 1 bytes) and-many (xs, rest) e in
          let b = if-some (leb a.0.0 most) (many_at format a.0.0 a.0.1) (xs, rest) a.2 in
          record { count = a.0.0; middle = a.0.1; number_read = a.1; within = b.0; read = b.1 }

      counted-is : (bytes : List ℕ) (xs : List X) (rest : List ℕ) → AreCounted bytes xs rest
          → counted_at most format bytes ≡ Some (xs, rest)
      unfolding counted_at
      counted-is bytes xs rest is =
          ap (λ (r : Option (ℕ × List ℕ)). r >>= and-many) is.number_read
          ∙ ap (λ b. cond b (many_at format is.count is.middle) None) is.within ∙ is.read

      counted-again : (xs : List X) (rest : List ℕ) → (counted most format).is_possible xs ≡ true
          → counted_at most format ((counted most format).bytes xs ++ rest) ≡ Some (xs, rest)
      counted-again xs rest possible =
          let parts = and_parts (leb (length xs) most) (list_all format.is_possible xs) possible in
          let behind : List ℕ = flat_map format.bytes xs ++ rest in
          let fits : length xs ≤ most = leb-true (length xs) most parts.0 in
          ap (counted_at most format) (append_assoc (big_bytes 1 (length xs)) (flat_map format.bytes xs) rest)
          ∙ counted-is (big_bytes 1 (length xs) ++ behind) xs rest (record {
            count = length xs;
            middle = behind;
            number_read = (number_exact 1).reads_back (length xs) behind
                (lt-ltb (length xs) 256 (omega arith));
            within = parts.0;
            read = many-again xs rest parts.1;
          })

      counted-spelled : (bytes : List ℕ) (xs : List X) (rest : List ℕ) → AreBytes bytes
          → AreCounted bytes xs rest → AreBytesOf (counted most format) bytes xs rest
      counted-spelled bytes xs rest are is =
          let a = (number_exact 1).has_one_spelling bytes is.count is.middle are is.number_read in
          let b = many-spelled is.count is.middle xs rest a.rest_bytes is.read in
          record {
            possible = both_true (leb (length xs) most) (list_all format.is_possible xs)
                (ap (λ n. leb n most) b.count ∙ is.within) b.possible;
            spelled = a.spelled ∙ ap (λ n. big_bytes 1 n ++ is.middle) (sym b.count)
                ∙ ap (λ m. big_bytes 1 (length xs) ++ m) b.spelled
                ∙ sym (append_assoc (big_bytes 1 (length xs)) (flat_map format.bytes xs) rest);
            rest_bytes = b.rest_bytes;
          }

      pub counted_exact : IsExact (counted most format)
      counted_exact = record {
        reads_back = counted-again;
        has_one_spelling = λ bytes xs rest are e. counted-spelled bytes xs rest are
            (counted-parts bytes xs rest e);
        ends_within = λ bytes xs rest e. let is = counted-parts bytes xs rest e in
            let a = (number_exact 1).ends_within bytes is.count is.middle is.number_read in
            omega (arith, a, many-within is.count is.middle xs rest is.read);
        ignores_rest = λ bytes xs rest more e. let is = counted-parts bytes xs rest e in
            counted-is (bytes ++ more) xs (rest ++ more) (record {
              count = is.count;
              middle = is.middle ++ more;
              number_read = (number_exact 1).ignores_rest bytes is.count is.middle more is.number_read;
              within = is.within;
              read = many-more is.count is.middle xs rest more is.read;
            });
      }
