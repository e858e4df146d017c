-- Each format is exact, and so are formats made of others.
use Rattle.std.proofs.Common.{◌≡◌, ℕ, ◌+◌, ◌^◌, ◌<◌, ◌≤◌, Bool, true, false, ◌&&◌, cond, ltb}
use Rattle.std.proofs.Common.{List, [], ◌++◌, length, take, drop, Option, Some, None}
use Rattle.std.proofs.Common.{refl, sym, ap, subst, ◌∙◌, arith, append_assoc, length-append, length-drop}
use Rattle.std.specs.Option.{option_map_or}
use Rattle.std.proofs.lemmas.Bool.{and_parts, eqb-true, eq-eqb, le-ltb, ltb-false, lt-ltb, ltb-true}
use Rattle.std.proofs.lemmas.List.{take-append-drop, take-append-le, drop-append-le, get_or-drop}
use Rattle.std.proofs.lemmas.List.{length-take-le, take_at, drop_at}
use Rattle.byteorder.specs.Endian.{big_bytes, big_number}
use Rattle.byteorder.specs.Numbers.{big_from-append, big_from-lt, big_number-reads_back}
use Rattle.byteorder.specs.Numbers.{length-bytes_high_first}
use Rattle.sg_changes.specs.Format.{AreBytes, AreBytesOf, Format, IsExact, ◌>>=◌}
use Rattle.sg_changes.specs.Format.{number_at, bytes_at, number, plain, before, pair, coded}
use Rattle.sg_changes.proofs.NumberLemmas.{spelled_number}

-- ---- Steps of reading

pub bind_some : {A B : Type 0} (o : Option A) (f : A → Option B) (y : B) → (o >>= f) ≡ Some y
    → (x : A) × (o ≡ Some x) × (f x ≡ Some y)
bind_some None f y e = absurd cc
bind_some (Some x) f y e = (x, refl, e)

pub pair_parts : {A B : Type 0} (p q : A × B) → Some p ≡ Some q → p ≡ q
pair_parts p q e = cc

pub both_true : (a b : Bool) → a ≡ true → b ≡ true → (a && b) ≡ true
both_true true b e f = f
both_true false b e f = cc

guard-some : {A : Type 0} (b : Bool) (x y : A) → cond b None (Some x) ≡ Some y → (b ≡ false) × (x ≡ y)
guard-some true x y e = absurd cc
guard-some false x y e = (refl, cc)

pub dropped_bytes : (n : ℕ) (bytes : List ℕ) → AreBytes bytes → AreBytes (drop n bytes)
dropped_bytes n bytes are i = rw (get_or-drop n bytes i 0) (are (n + i))

-- ---- A number

number-is : (size : ℕ) (bytes : List ℕ) → size ≤ length bytes
    → number_at size bytes ≡ Some (big_number size bytes, drop size bytes)
unfolding number_at
number-is size bytes within =
    ap (λ b. cond b None (Some (big_number size bytes, drop size bytes))) (le-ltb (length bytes) size within)

record IsNumber (size : ℕ) (bytes : List ℕ) (x : ℕ) (rest : List ℕ) : Type 0 where
  within : size ≤ length bytes
  value : big_number size bytes ≡ x
  after : drop size bytes ≡ rest

number-parts : (size : ℕ) (bytes : List ℕ) (x : ℕ) (rest : List ℕ)
    → number_at size bytes ≡ Some (x, rest) → IsNumber size bytes x rest
unfolding number_at
number-parts size bytes x rest e =
    let g = guard-some (ltb (length bytes) size) (big_number size bytes, drop size bytes) (x, rest) e in
    record {
      within = ltb-false (length bytes) size g.0;
      value = ap (λ (p : ℕ × List ℕ). p.0) g.1;
      after = ap (λ (p : ℕ × List ℕ). p.1) g.1;
    }

number-again : (size x : ℕ) (rest : List ℕ) → x < 256 ^ size
    → number_at size (big_bytes size x ++ rest) ≡ Some (x, rest)
number-again size x rest fits =
    let len = length-bytes_high_first size x in
    number-is size (big_bytes size x ++ rest) (omega (arith, len, length-append (big_bytes size x) rest))
    ∙ ap (λ n. Some (n, drop size (big_bytes size x ++ rest))) (big_number-reads_back size x rest fits)
    ∙ ap (λ r. Some (x, r)) (drop_at (big_bytes size x) rest size len)

number-spelled : (size : ℕ) (bytes : List ℕ) (x : ℕ) (rest : List ℕ) → AreBytes bytes
    → IsNumber size bytes x rest → AreBytesOf (number size) bytes x rest
number-spelled size bytes x rest are is = record {
  possible = lt-ltb x (256 ^ size) (subst (λ n. n < 256 ^ size) is.value (big_from-lt 0 size bytes are));
  spelled =
      sym (take-append-drop size bytes)
      ∙ ap (λ bs. bs ++ drop size bytes) (spelled_number size bytes are is.within
      ∙ ap (big_bytes size) is.value)
      ∙ ap (λ r. big_bytes size x ++ r) is.after;
  rest_bytes = subst AreBytes is.after (dropped_bytes size bytes are);
}

number-more : (size : ℕ) (bytes : List ℕ) (x : ℕ) (rest more : List ℕ) → IsNumber size bytes x rest
    → number_at size (bytes ++ more) ≡ Some (x, rest ++ more)
number-more size bytes x rest more is =
    number-is size (bytes ++ more) (omega (arith, is.within, length-append bytes more))
    ∙ ap (λ n. Some (n, drop size (bytes ++ more))) (big_from-append size bytes more is.within ∙ is.value)
    ∙ ap (λ r. Some (x, r)) (drop-append-le size bytes more is.within ∙ ap (λ r. r ++ more) is.after)

pub number_exact : (size : ℕ) → IsExact (number size)
number_exact size = record {
  reads_back = λ x rest possible. number-again size x rest (ltb-true x (256 ^ size) possible);
  has_one_spelling = λ bytes x rest are e. number-spelled size bytes x rest are
      (number-parts size bytes x rest e);
  ends_within = λ bytes x rest e. let is = number-parts size bytes x rest e in
      omega (arith, ap length is.after, length-drop size bytes);
  ignores_rest = λ bytes x rest more e. number-more size bytes x rest more (number-parts size bytes x rest e);
}

-- ---- Bytes as they are

bytes-is : (n : ℕ) (bytes : List ℕ) → n ≤ length bytes → bytes_at n bytes ≡ Some (take n bytes, drop n bytes)
unfolding bytes_at
bytes-is n bytes within =
    ap (λ b. cond b None (Some (take n bytes, drop n bytes))) (le-ltb (length bytes) n within)

record IsPlain (n : ℕ) (bytes xs rest : List ℕ) : Type 0 where
  within : n ≤ length bytes
  value : take n bytes ≡ xs
  after : drop n bytes ≡ rest

bytes-parts : (n : ℕ) (bytes xs rest : List ℕ) → bytes_at n bytes ≡ Some (xs, rest) → IsPlain n bytes xs rest
unfolding bytes_at
bytes-parts n bytes xs rest e =
    let g = guard-some (ltb (length bytes) n) (take n bytes, drop n bytes) (xs, rest) e in
    record {
      within = ltb-false (length bytes) n g.0;
      value = ap (λ (p : List ℕ × List ℕ). p.0) g.1;
      after = ap (λ (p : List ℕ × List ℕ). p.1) g.1;
    }

bytes-again : (n : ℕ) (xs rest : List ℕ) → length xs ≡ n → bytes_at n (xs ++ rest) ≡ Some (xs, rest)
bytes-again n xs rest len =
    bytes-is n (xs ++ rest) (omega (arith, len, length-append xs rest))
    ∙ ap (λ t. Some (t, drop n (xs ++ rest))) (take_at xs rest n len)
    ∙ ap (λ r. Some (xs, r)) (drop_at xs rest n len)

bytes-spelled : (n : ℕ) (bytes xs rest : List ℕ) → AreBytes bytes → IsPlain n bytes xs rest
    → AreBytesOf (plain n) bytes xs rest
bytes-spelled n bytes xs rest are is = record {
  possible = eq-eqb (length xs) n (ap length (sym is.value) ∙ length-take-le n bytes is.within);
  spelled = sym (take-append-drop n bytes) ∙ ap (λ t. t ++ drop n bytes) is.value
      ∙ ap (λ r. xs ++ r) is.after;
  rest_bytes = subst AreBytes is.after (dropped_bytes n bytes are);
}

bytes-more : (n : ℕ) (bytes xs rest more : List ℕ) → IsPlain n bytes xs rest
    → bytes_at n (bytes ++ more) ≡ Some (xs, rest ++ more)
bytes-more n bytes xs rest more is =
    bytes-is n (bytes ++ more) (omega (arith, is.within, length-append bytes more))
    ∙ ap (λ t. Some (t, drop n (bytes ++ more))) (take-append-le n bytes more is.within ∙ is.value)
    ∙ ap (λ r. Some (xs, r)) (drop-append-le n bytes more is.within ∙ ap (λ r. r ++ more) is.after)

pub plain_exact : (n : ℕ) → IsExact (plain n)
plain_exact n = record {
  reads_back = λ xs rest possible. bytes-again n xs rest (eqb-true (length xs) n possible);
  has_one_spelling = λ bytes xs rest are e. bytes-spelled n bytes xs rest are (bytes-parts n bytes xs rest e);
  ends_within = λ bytes xs rest e. let is = bytes-parts n bytes xs rest e in
      omega (arith, ap length is.after, length-drop n bytes);
  ignores_rest = λ bytes xs rest more e. bytes-more n bytes xs rest more (bytes-parts n bytes xs rest e);
}

-- ---- One value after another

module _ {X Y : Type 0} (first : Format X) (second : X → Format Y) where
  abbrev and-second : X × List ℕ → Option ((X × Y) × List ℕ)
  and-second x = (second x.0).at x.1 >>= λ y. Some ((x.0, y.0), y.1)

  record IsBefore (bytes : List ℕ) (p : X × Y) (rest : List ℕ) : Type 0 where
    middle : List ℕ
    one : first.at bytes ≡ Some (p.0, middle)
    two : (second p.0).at middle ≡ Some (p.1, rest)

  before-parts : (bytes : List ℕ) (p : X × Y) (rest : List ℕ)
      → (before first second).at bytes ≡ Some (p, rest)
      → IsBefore bytes p rest
  before-parts bytes p rest e =
      let a = bind_some (first.at bytes) and-second (p, rest) e in
      let b = bind_some ((second a.0.0).at a.0.1) (λ y. Some ((a.0.0, y.0), y.1)) (p, rest) a.2 in
      let same : ((a.0.0, b.0.0), b.0.1) ≡ (p, rest) = pair_parts ((a.0.0, b.0.0), b.0.1) (p, rest) b.2 in
      subst (λ (q : (X × Y) × List ℕ). IsBefore bytes q.0 q.1) same
      (record { middle = a.0.1; one = a.1; two = b.1 })

  before-is : (bytes : List ℕ) (p : X × Y) (rest : List ℕ) → IsBefore bytes p rest
      → (before first second).at bytes ≡ Some (p, rest)
  before-is bytes p rest is =
      ap (λ o. o >>= and-second) is.one
      ∙ ap (λ (o : Option (Y × List ℕ)). o >>= λ y. Some ((p.0, y.0), y.1)) is.two

  module _ (one : IsExact first) (two : (x : X) → IsExact (second x)) where
    before-again : (p : X × Y) (rest : List ℕ) → (before first second).is_possible p ≡ true
        → (before first second).at ((before first second).bytes p ++ rest) ≡ Some (p, rest)
    before-again p rest possible =
        let parts = and_parts (first.is_possible p.0) ((second p.0).is_possible p.1) possible in
        let behind : List ℕ = (second p.0).bytes p.1 ++ rest in
        ap (before first second).at (append_assoc (first.bytes p.0) ((second p.0).bytes p.1) rest)
        ∙ before-is (first.bytes p.0 ++ behind) p rest (record {
          middle = behind;
          one = one.reads_back p.0 behind parts.0;
          two = (two p.0).reads_back p.1 rest parts.1;
        })

    before-spelled : (bytes : List ℕ) (p : X × Y) (rest : List ℕ) → AreBytes bytes → IsBefore bytes p rest
        → AreBytesOf (before first second) bytes p rest
    before-spelled bytes p rest are is =
        let a = one.has_one_spelling bytes p.0 is.middle are is.one in
        let b = (two p.0).has_one_spelling is.middle p.1 rest a.rest_bytes is.two in
        record {
          possible = both_true (first.is_possible p.0) ((second p.0).is_possible p.1) a.possible b.possible;
          spelled = a.spelled ∙ ap (λ m. first.bytes p.0 ++ m) b.spelled
              ∙ sym (append_assoc (first.bytes p.0) ((second p.0).bytes p.1) rest);
          rest_bytes = b.rest_bytes;
        }

    pub before_exact : IsExact (before first second)
    before_exact = record {
      reads_back = before-again;
      has_one_spelling = λ bytes p rest are e. before-spelled bytes p rest are (before-parts bytes p rest e);
      ends_within = λ bytes p rest e. let is = before-parts bytes p rest e in
          omega (
            arith,
            one.ends_within bytes p.0 is.middle is.one,
            (two p.0).ends_within is.middle p.1
                rest is.two,
          );
      ignores_rest = λ bytes p rest more e. let is = before-parts bytes p rest e in
          before-is (bytes ++ more) p (rest ++ more) (record {
            middle = is.middle ++ more;
            one = one.ignores_rest bytes p.0 is.middle more is.one;
            two = (two p.0).ignores_rest is.middle p.1 rest more is.two;
          });
    }

pub pair_exact : {X Y : Type 0} (first : Format X) (second : Format Y) → IsExact first → IsExact second
    → IsExact (pair first second)
pair_exact first second one two = before_exact first (λ _. second) one (λ _. two)

-- ---- Values as others

module _ {X Y : Type 0} (to : X → Option Y) (from : Y → Option X) (format : Format X) (exact : IsExact format)
    (back : (x : X) (y : Y) → to x ≡ Some y → from y ≡ Some x)
    (forth : (x : X) (y : Y) → from y ≡ Some x → to x ≡ Some y) where
  abbrev and-coded : X × List ℕ → Option (Y × List ℕ)
  and-coded x = to x.0 >>= λ y. Some (y, x.1)

  record IsCoded (bytes : List ℕ) (y : Y) (rest : List ℕ) : Type 0 where
    code : X
    read : format.at bytes ≡ Some (code, rest)
    means : to code ≡ Some y

  coded-parts : (bytes : List ℕ) (y : Y) (rest : List ℕ) → (coded to from format).at bytes ≡ Some (y, rest)
      → IsCoded bytes y rest
  coded-parts bytes y rest e =
      let a = bind_some (format.at bytes) and-coded (y, rest) e in
      let b = bind_some (to a.0.0) (λ y. Some (y, a.0.1)) (y, rest) a.2 in
      let same : (b.0, a.0.1) ≡ (y, rest) = pair_parts (b.0, a.0.1) (y, rest) b.2 in
      subst (λ (q : Y × List ℕ). IsCoded bytes q.0 q.1) same
      (record { code = a.0.0; read = a.1; means = b.1 })

  coded-is : (bytes : List ℕ) (y : Y) (rest : List ℕ) → IsCoded bytes y rest
      → (coded to from format).at bytes ≡ Some (y, rest)
  coded-is bytes y rest is =
      ap (λ o. o >>= and-coded) is.read ∙ ap (λ (o : Option Y). o >>= λ z. Some (z, rest)) is.means

  possible-parts : (y : Y) (o : Option X) → option_map_or format.is_possible o false ≡ true
      → (x : X) × (o ≡ Some x) × (format.is_possible x ≡ true)
  possible-parts y None e = absurd cc
  possible-parts y (Some x) e = (x, refl, e)

  coded-again : (y : Y) (rest : List ℕ) → (coded to from format).is_possible y ≡ true
      → (coded to from format).at ((coded to from format).bytes y ++ rest) ≡ Some (y, rest)
  coded-again y rest possible =
      let p = possible-parts y (from y) possible in
      ap (λ (o : Option X). (coded to from format).at (option_map_or format.bytes o [] ++ rest)) p.1
      ∙ coded-is (format.bytes p.0 ++ rest) y rest
      (record { code = p.0; read = exact.reads_back p.0 rest p.2; means = forth p.0 y p.1 })

  coded-spelled : (bytes : List ℕ) (y : Y) (rest : List ℕ) → AreBytes bytes → IsCoded bytes y rest
      → AreBytesOf (coded to from format) bytes y rest
  coded-spelled bytes y rest are is =
      let a = exact.has_one_spelling bytes is.code rest are is.read in
      let same = back is.code y is.means in
      record {
        possible = ap (λ (o : Option X). option_map_or format.is_possible o false) same ∙ a.possible;
        spelled = a.spelled ∙ ap (λ (o : Option X). option_map_or format.bytes o [] ++ rest) (sym same);
        rest_bytes = a.rest_bytes;
      }

  pub coded_exact : IsExact (coded to from format)
  coded_exact = record {
    reads_back = coded-again;
    has_one_spelling = λ bytes y rest are e. coded-spelled bytes y rest are (coded-parts bytes y rest e);
    ends_within = λ bytes y rest e. let is = coded-parts bytes y rest e in
        exact.ends_within bytes is.code rest is.read;
    ignores_rest = λ bytes y rest more e. let is = coded-parts bytes y rest e in
        coded-is (bytes ++ more) y (rest ++ more) (record {
          code = is.code;
          read = exact.ignores_rest bytes is.code rest more is.read;
          means = is.means;
        });
  }
