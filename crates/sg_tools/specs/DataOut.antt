-- Data-out of a tool, as the words of an option give it.
use Rattle.std.specs.Prelude.{ℕ, ◌*◌, List, length, nat_le, Option, None, if◌then◌else◌}
use Rattle.sg_tools.specs.HexDigits.{hex_bytes}
use Rattle.sg_wire.specs.UnmapList.{maximum_unmap_descriptors, unmap_list_length}

-- The length of the longest data-out, which UNMAP with the most descriptors has.
abbrev pub max_data_out : ℕ
max_data_out = unmap_list_length maximum_unmap_descriptors

-- The length of a logical block, in bytes.
abbrev pub block_length : ℕ
block_length = 512

-- The bytes of a hexadecimal word, unless there are more than the longest data-out has.
abbrev pub data_out_of : List ℕ → Option (List ℕ)
data_out_of word = if nat_le (length word) (2 * max_data_out) then hex_bytes word else None
