-- A line of the file `rows` names a row and a disk.
use Rattle.std.specs.Prelude.{◌≡◌, ◌^◌, ◌<◌, ℕ, List, length, ◌==◌, ◌⊎◌}
use Rattle.std.specs.List.{before_first, after_first, position_or_len}
use Rattle.std.specs.Str.Parse.{IsNumeral, digits_value, without_leading_plus}

-- A text before its first space, and the text after it.
abbrev pub first_word : List ℕ → List ℕ
first_word text = before_first (λ byte. byte == 32) text

abbrev pub after_word : List ℕ → List ℕ
after_word text = after_first (λ byte. byte == 32) text

abbrev pub HasSpace : List ℕ → Type 0
HasSpace text = position_or_len (λ byte. byte == 32) text < length text

-- A number in decimal digits that fits in this many bits. A plus may come before it.
abbrev pub IsNumber : (bits : ℕ) → List ℕ → Type 0
IsNumber bits text = let digits = without_leading_plus text in
    IsNumeral 10 digits × (digits_value 10 digits < 2 ^ bits)

abbrev pub number : List ℕ → ℕ
number text = digits_value 10 (without_leading_plus text)

-- A line names a disk: after its first word come two numbers, of blocks and of the pool.
pub record NamesDisk (line : List ℕ) : Type 0 where
  pub sizes : HasSpace line
  pub pool_follows : HasSpace (after_word line)
  pub blocks : IsNumber 64 (first_word (after_word line))
  pub pool : IsNumber 32 (after_word (after_word line))

-- The row of a line that names a disk.
pub record IsSized (line name : List ℕ) (blocks pool : ℕ) : Type 0 where
  pub sized : NamesDisk line
  pub name_is : name ≡ first_word line
  pub blocks_are : blocks ≡ number (first_word (after_word line))
  pub pool_is : pool ≡ number (after_word (after_word line))

-- The row of a line of one word.
pub record IsPlain (line name : List ℕ) (blocks pool : ℕ) : Type 0 where
  pub one_word : ¬ HasSpace line
  pub name_is : name ≡ line
  pub blocks_are : blocks ≡ 4096
  pub pool_is : pool ≡ 4

-- The row that a line names.
abbrev pub IsRow : (line name : List ℕ) (blocks pool : ℕ) → Type 0
IsRow line name blocks pool = IsPlain line name blocks pool ⊎ IsSized line name blocks pool

-- A line that names no row: it has more than one word, and names no disk.
abbrev pub IsNoRow : List ℕ → Type 0
IsNoRow line = HasSpace line × ¬ NamesDisk line
