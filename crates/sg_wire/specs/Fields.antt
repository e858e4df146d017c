-- Fields of data, by their lengths and values.
use Rattle.std.specs.Prelude.{ℕ, List}
use Rattle.std.specs.List.{flat_map}
use Rattle.byteorder.specs.Endian.{big_bytes}

-- A field: its length in bytes, and its value.
pub record Field : Type 0 where
  pub size : ℕ
  pub value : ℕ

abbrev pub field : (size value : ℕ) → Field
field size value = record { size = size; value = value }

-- Fields one after the other.
abbrev pub fields_bytes : List Field → List ℕ
fields_bytes fields = flat_map (λ (f : Field). big_bytes f.size f.value) fields
