-- How values are written as bytes, and how they are read from the front of bytes. A format has no
-- second spelling: it reads exactly what it writes (`IsExact`).
use Rattle.std.specs.List.{flat_map, list_all}
use Rattle.std.specs.Option.{option_map_or}
use Rattle.std.specs.Prelude.{◌≡◌, ◌<◌, ◌≤◌, ℕ, zero, suc, ◌^◌, ◌==◌, Bool, true, false, ◌&&◌}
use Rattle.std.specs.Prelude.{nat_le, nat_lt, List, [], ◌∷◌, ◌++◌}
use Rattle.std.specs.Prelude.{length, take, drop, slice_index, Option, Some, None, if◌then◌else◌}
use Rattle.byteorder.specs.Endian.{big_bytes, big_number}

pub record Format (X : Type 0) : Type 0 where
  -- The bytes of a value.
  pub bytes : X → List ℕ
  -- The value whose bytes are in front, and the bytes after them. None if no value is written so.
  pub at : List ℕ → Option (X × List ℕ)
  -- The value has bytes.
  pub is_possible : X → Bool

-- ---- Steps of reading

infixl 10 ◌>>=◌
abbrev pub ◌>>=◌ : {A B : Type 0} → Option A → (A → Option B) → Option B
None >>= f = None
(Some x) >>= f = f x

unfoldable pub number_at : (size : ℕ) → List ℕ → Option (ℕ × List ℕ)
number_at size bytes =
    if nat_lt (length bytes) size then None else Some (big_number size bytes, drop size bytes)

unfoldable pub bytes_at : (count : ℕ) → List ℕ → Option (List ℕ × List ℕ)
bytes_at count bytes =
    if nat_lt (length bytes) count then None else Some (take count bytes, drop count bytes)

-- ---- Formats

-- A number in a field of `size` bytes, the highest byte first.
abbrev pub number : (size : ℕ) → Format ℕ
number size = record {
  bytes = big_bytes size;
  at = number_at size;
  is_possible = λ x. nat_lt x (256 ^ size);
}

-- `count` bytes as they are.
abbrev pub plain : (count : ℕ) → Format (List ℕ)
plain count = record {
  bytes = λ xs. xs;
  at = bytes_at count;
  is_possible = λ xs. length xs == count;
}

-- A value, and then one whose format depends on the first.
abbrev pub before : {X Y : Type 0} → Format X → (X → Format Y) → Format (X × Y)
before first second = record {
  bytes = λ p. first.bytes p.0 ++ (second p.0).bytes p.1;
  at = λ bytes. do
    x ← first.at bytes
    y ← (second x.0).at x.1
    Some ((x.0, y.0), y.1);
  is_possible = λ p. first.is_possible p.0 && (second p.0).is_possible p.1;
}

-- A value, and then another.
abbrev pub pair : {X Y : Type 0} → Format X → Format Y → Format (X × Y)
pair first second = before first (λ _. second)

-- Values of one type written as values of another.
abbrev pub coded : {X Y : Type 0} → (X → Option Y) → (Y → Option X) → Format X → Format Y
coded to from format = record {
  bytes = λ y. option_map_or format.bytes (from y) [];
  at = λ bytes. do
    x ← format.at bytes
    y ← to x.0
    Some (y, x.1);
  is_possible = λ y. option_map_or format.is_possible (from y) false;
}

-- Values that pass a test.
abbrev pub passing : {X : Type 0} → (X → Bool) → X → Option X
passing test x = if test x then Some x else None

abbrev pub only : {X : Type 0} → (X → Bool) → Format X → Format X
only test format = coded (passing test) (passing test) format

-- A number below a limit, in a field of one byte.
abbrev pub number_below : (limit : ℕ) → Format ℕ
number_below limit = only (λ n. nat_lt n limit) (number 1)

-- Yes or no: a byte that is 1 or 0.
abbrev pub bool_of : ℕ → Option Bool
bool_of zero = Some false
bool_of (suc zero) = Some true
bool_of (suc (suc _)) = None

abbrev pub flag : Format Bool
flag = coded bool_of (λ b. Some (if b then 1 else 0)) (number 1)

-- A value that may be absent: a byte that is 0 if it is, and otherwise 1 and then the value.
abbrev pub optional_bytes : {X : Type 0} → Format X → Option X → List ℕ
optional_bytes format None = 0 ∷ []
optional_bytes format (Some x) = 1 ∷ format.bytes x

unfoldable pub optional_at : {X : Type 0} → Format X → List ℕ → Option (Option X × List ℕ)
optional_at format bytes = do
  is_present ← flag.at bytes
  if is_present.0
      then (format.at is_present.1 >>= λ x. Some (Some x.0, x.1))
      else Some (None, is_present.1)

abbrev pub optional : {X : Type 0} → Format X → Format (Option X)
optional format = record {
  bytes = optional_bytes format;
  at = optional_at format;
  is_possible = λ x. option_map_or format.is_possible x true;
}

-- `count` values, one after another.
unfoldable pub many_at : {X : Type 0} → Format X → (count : ℕ) → List ℕ → Option (List X × List ℕ)
many_at format zero bytes = Some ([], bytes)
many_at format (suc count) bytes = do
  x ← format.at bytes
  xs ← many_at format count x.1
  Some (x.0 ∷ xs.0, xs.1)

abbrev pub many : {X : Type 0} → (count : ℕ) → Format X → Format (List X)
many count format = record {
  bytes = flat_map format.bytes;
  at = many_at format count;
  is_possible = λ xs. (length xs == count) && list_all format.is_possible xs;
}

-- Values, one after another, and before them their number in one byte. There are at most `most`,
-- and `most` is below 256.
unfoldable pub counted_at : {X : Type 0} → (most : ℕ) → Format X → List ℕ → Option (List X × List ℕ)
counted_at most format bytes = do
  count ← number_at 1 bytes
  if nat_le count.0 most then many_at format count.0 count.1 else None

abbrev pub counted : {X : Type 0} → (most : ℕ) → Format X → Format (List X)
counted most format = record {
  bytes = λ xs. big_bytes 1 (length xs) ++ flat_map format.bytes xs;
  at = counted_at most format;
  is_possible = λ xs. nat_le (length xs) most && list_all format.is_possible xs;
}

-- No bytes.
abbrev pub nothing : Format Unit
nothing = record { bytes = λ _. []; at = λ bytes. Some (tt, bytes); is_possible = λ _. true }

-- The value of a row of a table of tags, and the bytes after it.
abbrev pub made : {X Y : Type 0} → (X → Y) → Option (X × List ℕ) → Option (Y × List ℕ)
made make read = read >>= λ x. Some (make x.0, x.1)

-- A tag of one byte, and then what its row of the table has.
abbrev pub tagged_at : {Y : Type 0} → ((tag : ℕ) → List ℕ → Option (Y × List ℕ)) → List ℕ
    → Option (Y × List ℕ)
tagged_at with_tag [] = None
tagged_at with_tag (tag ∷ bytes) = with_tag tag bytes

abbrev pub tagged : {Y : Type 0} → (Y → List ℕ) → (Y → Bool)
    → ((tag : ℕ) → List ℕ → Option (Y × List ℕ)) → Format Y
tagged bytes is_possible with_tag = record {
  bytes = bytes;
  at = tagged_at with_tag;
  is_possible = is_possible;
}

-- ---- What is true of every format here

abbrev pub AreBytes : List ℕ → Type 0
AreBytes bytes = (index : ℕ) → slice_index bytes index < 256

-- Bytes are those of a value, and others after them.
pub record AreBytesOf {X : Type 0} (format : Format X) (bytes : List ℕ) (value : X) (rest : List ℕ) :
    Type 0 where
  pub possible : format.is_possible value ≡ true
  pub spelled : bytes ≡ format.bytes value ++ rest
  pub rest_bytes : AreBytes rest

-- A format reads what it writes, and nothing else. The bytes after a value do not matter.
pub record IsExact {X : Type 0} (format : Format X) : Type 0 where
  pub reads_back : (value : X) (rest : List ℕ) → format.is_possible value ≡ true
      → format.at (format.bytes value ++ rest) ≡ Some (value, rest)
  pub has_one_spelling : (bytes : List ℕ) (value : X) (rest : List ℕ) → AreBytes bytes
      → format.at bytes ≡ Some (value, rest) → AreBytesOf format bytes value rest
  pub ends_within : (bytes : List ℕ) (value : X) (rest : List ℕ)
      → format.at bytes ≡ Some (value, rest) → length rest ≤ length bytes
  pub ignores_rest : (bytes : List ℕ) (value : X) (rest more : List ℕ)
      → format.at bytes ≡ Some (value, rest) → format.at (bytes ++ more) ≡ Some (value, rest ++ more)
