-- What the options of sg_verify, sg_compare_and_write and sg_write_same ask for: data-out, and the
-- command that has room for the numbers.
use Rattle.std.specs.Prelude.{ℕ, ◌^◌, Option, Some, None, Bool, not, ◌&&◌, ◌||◌, nat_lt}
use Rattle.std.specs.Prelude.{option_map, if◌then◌else◌}
use Rattle.clap.specs.Words.{Text}
use Rattle.sg_tools.specs.DataOut.{data_out_of}
use Rattle.sg_tools.specs.OptionTexts.{number_or, value_or}
use Rattle.sg_tools.specs.declared.parameters.Parameters.{Parameters}
use Rattle.sg_tools.specs.declared.parameters.Parameters.TheVariants as parameters
use Rattle.sg_wire.specs.declared.command.Command.{Command}
use Rattle.sg_wire.specs.Commands as command

-- The bytes of a hexadecimal word.
abbrev pub given_bytes : Text → Option Parameters
given_bytes word = option_map parameters.Bytes (data_out_of word)

-- The data-out of --in, or another one if it is not given.
abbrev pub data_or : Parameters → (word : Option Text) → Option Parameters
data_or default word = value_or default given_bytes word

-- The sources of data-out: --in, --0 and --ff. Each excludes the others.
abbrev pub has_data : (word zeros ones : Bool) → Bool
has_data word zeros ones = word || (zeros || ones)

abbrev pub has_two_sources : (word zeros ones : Bool) → Bool
has_two_sources word zeros ones = (word && (zeros || ones)) || (zeros && ones)

-- A block of zeros, a block of FFh, or no data-out.
abbrev pub block_or_nothing : (zeros ones : Bool) → Parameters
block_or_nothing zeros ones =
    if zeros then parameters.Block 0x00
    else (if ones then parameters.Block 0xFF else parameters.Nothing)

-- Without --ebytchk, BYTCHK is 1 if there is data-out, and otherwise 0.
abbrev pub byte_check_or : (compares : Bool) → Option Text → Option ℕ
byte_check_or compares text = number_or (if compares then 1 else 0) 3 text

-- Without --in the data-out is a block of zeros, with --ff a block of FFh, and with --ndob nothing.
abbrev pub filled_block : (ones ndob : Bool) → Parameters
filled_block ones ndob =
    if ndob then parameters.Nothing else parameters.Block (if ones then 0xFF else 0x00)

-- One of --in, --lba and --num has to be given.
abbrev pub is_none_given : (word lba count : Bool) → Bool
is_none_given word lba count = not (word || (lba || count))

-- --in excludes --ff, and --10 excludes --16. --ndob excludes all three but --16.
abbrev pub excludes : (word ones ndob short long : Bool) → Bool
excludes word ones ndob short long =
    (word && ones) || ((short && long) || (ndob && (word || (ones || short))))

-- The address and the count, if WRITE SAME(10) has room for them.
abbrev pub short_extent : (lba count : ℕ) → Option (ℕ × ℕ)
short_extent lba count =
    if nat_lt lba (2 ^ 32) && nat_lt count (2 ^ 16) then Some (lba, count) else None

-- With --10 the command is WRITE SAME(10), and None if it has no room. Without --10 and --16 it is
-- WRITE SAME(10) if there is room, unless blocks are unmapped or there is no data-out.
abbrev pub write_same : (short long anchor unmap ndob : Bool) (lba count : ℕ) → Option (ℕ × ℕ)
    → Option Command
write_same short long anchor unmap ndob lba count None =
    if short then None else Some (command.write_same_16 anchor unmap ndob lba count)
write_same short long anchor unmap ndob lba count (Some extent) =
    if short || not (long || (unmap || ndob))
    then Some (command.write_same_10 anchor unmap extent.0 extent.1)
    else Some (command.write_same_16 anchor unmap ndob lba count)
