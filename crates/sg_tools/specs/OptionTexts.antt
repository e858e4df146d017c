-- The texts of options (docs/DECISIONS.md).
use Rattle.std.specs.Prelude.{ℕ, List, [], ◌∷◌, length, drop, codes, Option, Some, None, ◌==◌}
use Rattle.std.specs.Prelude.{nat_le, if◌then◌else◌}
use Rattle.std.specs.List.{slice_split}
use Rattle.std.specs.Str.{bytes_eq}
use Rattle.clap.specs.Words.{Text}
use Rattle.sg_tools.specs.Number.{has_0x, number_in, number_up_to}

-- The value of an option. It is the default if the option is not given, and None if its text has no
-- value.
abbrev pub value_or : {A : Type 0} → (default : A) → (value_of : Text → Option A) → Option Text
    → Option A
value_or default value_of None = Some default
value_or default value_of (Some text) = value_of text

abbrev pub number_or : (default limit : ℕ) → Option Text → Option ℕ
number_or default limit text = value_or default (number_up_to limit) text

-- ---- Pages of vital product data: a name of sg_vpd(8), or a number

pub record PageName : Type 0 where
  pub name : Text
  pub page_code : ℕ

abbrev page : Text → ℕ → PageName
page name page_code = record { name = name; page_code = page_code }

abbrev pub page_names : List PageName
page_names =
    page (codes "sv") 0x00
    ∷ page (codes "sn") 0x80
    ∷ page (codes "di") 0x83
    ∷ page (codes "bl") 0xB0
    ∷ page (codes "lbpv") 0xB2
    ∷ []

abbrev named_page : List PageName → Text → Option ℕ
named_page [] text = number_up_to 0xFF text
named_page (page ∷ pages) text =
    if bytes_eq text page.name then Some page.page_code else named_page pages text

abbrev pub vpd_page : Text → Option ℕ
vpd_page text = named_page page_names text

-- ---- Lists: numbers with commas between them

-- There is always an entry, which may be empty.
abbrev pub entries : Text → List Text
entries text = slice_split (λ byte. byte == 0x2C) text

abbrev pub prepend : {A : Type 0} → Option A → Option (List A) → Option (List A)
prepend None values = None
prepend (Some value) None = None
prepend (Some value) (Some values) = Some (value ∷ values)

abbrev pub all_values : {A : Type 0} → (value_of : Text → Option A) → List Text → Option (List A)
all_values value_of [] = Some []
all_values value_of (text ∷ texts) = prepend (value_of text) (all_values value_of texts)

-- None if an entry is no number or is past the limit.
unfoldable pub numbers_up_to : (limit : ℕ) → Text → Option (List ℕ)
numbers_up_to limit text = all_values (number_up_to limit) (entries text)

-- ---- Mode pages: a page code, or a page code, a comma and a subpage code

abbrev pub both : {A B : Type 0} → Option A → Option B → Option (A × B)
both None second = None
both (Some first) None = None
both (Some first) (Some second) = Some (first, second)

abbrev pub mode_page_of : List Text → Option (ℕ × ℕ)
mode_page_of [] = None
mode_page_of (page ∷ []) = both (number_up_to 0x3F page) (Some 0)
mode_page_of (page ∷ subpage ∷ []) = both (number_up_to 0x3F page) (number_up_to 0xFF subpage)
mode_page_of (page ∷ subpage ∷ more ∷ others) = None

abbrev pub mode_page : Text → Option (ℕ × ℕ)
mode_page text = mode_page_of (entries text)

-- ---- Keys and types of reservations: hexadecimal digits, with or without `0x`

abbrev pub digits_up_to : (most : ℕ) → List ℕ → Option ℕ
digits_up_to most digits = if nat_le (length digits) most then number_in 16 digits else None

unfoldable pub hex_digits_up_to : (most : ℕ) → Text → Option ℕ
hex_digits_up_to most text = digits_up_to most (if has_0x text then drop 2 text else text)

abbrev pub reservation_key : Text → Option ℕ
reservation_key text = hex_digits_up_to 16 text

abbrev pub reservation_type : Text → Option ℕ
reservation_type text = hex_digits_up_to 1 text
