-- The options of the verb `fault`: which commands the fault meets, and how many of them.
use Rattle.std.specs.Prelude.{ℕ, ◌-◌, ◌^◌, List, [], ◌∷◌, codes, Bool, true, false, ◌==◌, nat_le}
use Rattle.std.specs.Prelude.{if◌then◌else◌, Option, Some, None, option_and_then, option_map, unwrap_or}
use Rattle.std.specs.Str.{bytes_eq}
use Rattle.sg_wire.specs.declared.extent.Extent.{Extent}
use Rattle.sg_wire.specs.declared.profile.Profile.TheVariants.{Extended}
use Rattle.sg_tools.specs.Number.{number_of, number_up_to}
use Rattle.sg_units.specs.Initiators.{no_initiators, with_member}
use Rattle.sg_run.specs.InitiatorWord.{initiator_of}
use Rattle.sg_run.specs.SenseCodeWord.{hex_byte}
use Rattle.sg_run.specs.declared.request.fault_options.FaultOption.{FaultOption}
use Rattle.sg_run.specs.declared.request.fault_options.FaultOption.TheVariants.{To, Code, Blocks}
use Rattle.sg_run.specs.declared.request.fault_options.FaultOption.TheVariants.{Healed, Skip, Times}
use Rattle.sg_run.specs.declared.request.fault_options.FaultOptions.{FaultOptions}

-- ---- Operands

-- The most commands that pass, and the most to which a fault does something.
abbrev pub most_commands : ℕ
most_commands = 2 ^ 16 - 1

-- The most blocks that a fault lies on, or that a READ, a WRITE or a WRITE SAME moves.
abbrev pub most_blocks : ℕ
most_blocks = 2 ^ 32 - 1

-- The most bytes of data-in that can be asked to arrive.
abbrev pub most_bytes : ℕ
most_bytes = 2 ^ 32 - 1

abbrev pub number_between : (low high : ℕ) → List ℕ → Option ℕ
number_between low high word =
    option_and_then (λ n. if nat_le low n then Some n else None) (number_up_to high word)

-- An operation code: two hexadecimal digits and `h`, as in `28h`.
abbrev pub operation_code_of : List ℕ → Option ℕ
operation_code_of (high ∷ low ∷ last ∷ []) = if last == 0x68 then hex_byte high low else None
operation_code_of _ = None

abbrev pub extent_by : (lba count : Option ℕ) → Option Extent
extent_by (Some lba) (Some count) = Some (record { lba = lba; count = count })
extent_by _ _ = None

abbrev pub extent_of : (lba count : List ℕ) → Option Extent
extent_of lba count = extent_by (number_of lba) (number_between 1 most_blocks count)

-- ---- Options by their words

-- Without an operand,
abbrev pub is_healed : (name : List ℕ) → Bool
is_healed name = bytes_eq name (codes "healed")

-- with two operands,
abbrev pub is_blocks : (name : List ℕ) → Bool
is_blocks name = bytes_eq name (codes "blocks")

abbrev pub blocks_option : (lba count : List ℕ) → Option FaultOption
blocks_option lba count = option_map (λ extent. Blocks extent) (extent_of lba count)

-- and with one operand.
abbrev pub operand_option : (name operand : List ℕ) → Option FaultOption
operand_option name operand =
    if bytes_eq name (codes "to") then option_map (λ i. To i) (initiator_of Extended operand)
    else (if bytes_eq name (codes "code") then option_map (λ code. Code code) (operation_code_of operand)
    else (if bytes_eq name (codes "skip") then option_map (λ n. Skip n) (number_up_to most_commands operand)
    else (if bytes_eq name (codes "times")
    then option_map (λ n. Times n) (number_between 1 most_commands operand)
    else None)))

-- ---- All options

abbrev pub no_options : FaultOptions
no_options = record {
  initiators = None;
  code = None;
  blocks = None;
  is_healed = false;
  skip = None;
  times = None;
}

-- None of them is given twice,
abbrev pub unless_given : {A : Type 0} → Option A → FaultOptions → Option FaultOptions
unless_given None options = Some options
unless_given (Some _) options = None

-- except that each `to` adds an initiator.
abbrev pub with_initiator : FaultOptions → (initiator : ℕ) → FaultOptions
with_initiator options initiator = record options {
  initiators = Some (with_member (unwrap_or options.initiators no_initiators) initiator);
}

-- An option, and others.
abbrev pub with_option : FaultOptions → FaultOption → Option FaultOptions
with_option options (To initiator) = Some (with_initiator options initiator)
with_option options (Code code) = unless_given options.code (record options { code = Some code })
with_option options (Blocks extent) =
    unless_given options.blocks (record options { blocks = Some extent })
with_option options Healed =
    if options.is_healed then None else Some (record options { is_healed = true })
with_option options (Skip n) = unless_given options.skip (record options { skip = Some n })
with_option options (Times n) = unless_given options.times (record options { times = Some n })

abbrev pub and_option : Option FaultOption → (others : Option FaultOptions) → Option FaultOptions
and_option (Some option) (Some others) = with_option others option
and_option _ _ = None

-- The options that words give: the first, and the options of the words after it. The order does not
-- matter.
unfoldable pub options_of : List (List ℕ) → Option FaultOptions
options_of [] = Some no_options
options_of (name ∷ []) = if is_healed name then and_option (Some Healed) (Some no_options) else None
options_of (name ∷ word ∷ []) =
    if is_healed name then and_option (Some Healed) (options_of (word ∷ []))
    else and_option (operand_option name word) (Some no_options)
options_of (name ∷ word ∷ next ∷ words) =
    if is_healed name then and_option (Some Healed) (options_of (word ∷ next ∷ words))
    else (if is_blocks name then and_option (blocks_option word next) (options_of words)
    else and_option (operand_option name word) (options_of (next ∷ words)))
