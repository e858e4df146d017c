-- The parameter list of FORMAT UNIT (SBC-3, 5.3.2): what the disk supports in its header.
use Rattle.std.specs.Prelude.{ℕ, ◌+◌, ◌-◌, List, [], ◌∷◌, take, drop, slice_index, find, not}
use Rattle.std.specs.Prelude.{Bool, ◌==◌, bit_and, if◌then◌else◌}
use Rattle.std.specs.Prelude.{Option, option_map}
use Rattle.std.specs.List.{list_all}
use Rattle.sg_wire.specs.Bits.{has_bit}
use Rattle.sg_target.specs.declared.refusal.Reason.TheVariants.{InvalidFieldInParameterList}
use Rattle.sg_target.specs.declared.refusal.Refusal.{Refusal}
use Rattle.sg_target.specs.declared.refusal.Refusal.TheVariants.{CheckCondition}

-- A field: its first and its last byte, and whether the disk supports what they hold.
pub record HeaderField : Type 0 where
  pub first : ℕ
  pub last : ℕ
  pub supports : List ℕ → Bool

-- A field that has to be zero.
abbrev zeros : (first last : ℕ) → HeaderField
zeros first last =
    record { first = first; last = last; supports = list_all (λ byte. byte == 0) }

-- Five reserved bits and PROTECTION FIELD USAGE: there is no protection information.
abbrev protection_usage : HeaderField
protection_usage = zeros 0 0

-- FOV, DPRY, DCRT, STPF, IP, an obsolete bit, IMMED and a vendor's bit. Without FOV, DPRY, DCRT and STPF
-- are 0. They change nothing, because no defects are known, and neither does IMMED: the format is done
-- before its status is sent. IP is 0: there is no initialization pattern.
-- Choice (SBC-3, 5.3.2): DPRY, DCRT, STPF and IP may be refused with FOV, or supported.
abbrev allowed_options : (fov : Bool) → ℕ
allowed_options fov = if fov then 0xF2 else 0x02

abbrev pub supports_options : ℕ → Bool
supports_options options = bit_and options (allowed_options (has_bit options 0x80)) == options

abbrev options : HeaderField
options = record { first = 1; last = 1; supports = λ bytes. supports_options (slice_index bytes 0) }

-- The header has DEFECT LIST LENGTH last, and a long one has a reserved byte and P_I_INFORMATION with
-- PROTECTION INTERVAL EXPONENT before it. No defect is listed.
abbrev short_end : List HeaderField
short_end = zeros 2 3 ∷ []

abbrev pub long_end : List HeaderField
long_end = zeros 2 2 ∷ zeros 3 3 ∷ zeros 4 7 ∷ []

abbrev pub header : (long_list : Bool) → List HeaderField
header long_list = protection_usage ∷ options ∷ (if long_list then long_end else short_end)

-- Its length, in bytes.
abbrev pub header_length : (long_list : Bool) → ℕ
header_length long_list = if long_list then 8 else 4

-- The bytes of a field.
abbrev field_in : (list : List ℕ) → HeaderField → List ℕ
field_in list f = take (f.last + 1 - f.first) (drop f.first list)

-- The first byte of the first field with a value that the disk does not support.
abbrev pub bad_among : List HeaderField → (list : List ℕ) → Option ℕ
bad_among fields list =
    option_map (λ (f : HeaderField). f.first)
    (find (λ (f : HeaderField). not (f.supports (field_in list f))) fields)

abbrev pub bad_field : (long_list : Bool) → (list : List ℕ) → Option ℕ
bad_field long_list list = bad_among (header long_list) list

abbrev pub header_refusal : (long_list : Bool) → (list : List ℕ) → Option Refusal
header_refusal long_list list =
    option_map (λ byte. CheckCondition (InvalidFieldInParameterList byte)) (bad_field long_list list)
