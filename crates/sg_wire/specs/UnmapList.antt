-- The parameter list of UNMAP (SBC-3, 5.28.2).
use Rattle.std.specs.Prelude.{ℕ, ◌+◌, ◌-◌, ◌*◌, ◌/◌, ◌==◌, min, List, [], length, drop, filter, map}
use Rattle.std.specs.Prelude.{Bool, Result, Ok, Err, nat_lt, if◌then◌else◌}
use Rattle.std.specs.List.{range_with_len}
use Rattle.byteorder.specs.Endian.{big_number}
use Rattle.sg_wire.specs.declared.extent.Extent.{Extent}
use Rattle.sg_wire.specs.declared.unmap_list.UnmapListFault.{UnmapListFault}
use Rattle.sg_wire.specs.declared.unmap_list.UnmapListFault.TheVariants.{Short, TooManyDescriptors}

-- In bytes: its header, and each block descriptor after it.
abbrev pub unmap_header_length : ℕ
unmap_header_length = 8

abbrev pub unmap_descriptor_length : ℕ
unmap_descriptor_length = 16

abbrev pub unmap_list_length : (descriptors : ℕ) → ℕ
unmap_list_length descriptors = unmap_header_length + unmap_descriptor_length * descriptors

-- The first byte of UNMAP BLOCK DESCRIPTOR DATA LENGTH.
abbrev pub descriptor_data_length_at : ℕ
descriptor_data_length_at = 2

-- The most block descriptors that the parameter list of an UNMAP has.
abbrev pub maximum_unmap_descriptors : ℕ
maximum_unmap_descriptors = 64

-- ---- The bytes of a list

-- ---- The list that bytes contain

-- The extent of a descriptor that begins at a byte.
abbrev pub extent_at : (bytes : List ℕ) (at : ℕ) → Extent
extent_at bytes at =
    record { lba = big_number 8 (drop at bytes); count = big_number 4 (drop (at + 8) bytes) }

unfoldable pub descriptor_at : (bytes : List ℕ) (index : ℕ) → Extent
descriptor_at bytes index = extent_at bytes (unmap_list_length index)

abbrev pub first_descriptors : (bytes : List ℕ) (count : ℕ) → List Extent
first_descriptors bytes count = map (descriptor_at bytes) (range_with_len 0 count)

-- The extents of descriptors, or only those that name a block.
abbrev pub named_extents : (only_with_blocks : Bool) → List Extent → List Extent
named_extents only_with_blocks extents =
    if only_with_blocks then filter (λ (extent : Extent). nat_lt 0 extent.count) extents else extents

-- The number of whole descriptors in the bytes that the header counts, or in the bytes after the
-- header, if these are fewer.
-- Choice (SBC-3, 5.28.2): lengths that disagree may be refused.
unfoldable pub descriptor_count : (bytes : List ℕ) → ℕ
descriptor_count bytes =
    let counted = big_number 2 (drop descriptor_data_length_at bytes) in
    min counted (length bytes - unmap_header_length) / unmap_descriptor_length

-- A list of no bytes has no extent. Any other list has its header, and no more descriptors than
-- there may be.
-- Choice (SPC-4, 3.3, reserved): a reserved byte that is not 0 may be refused.
unfoldable pub unmap_list : (bytes : List ℕ) → Result (List Extent) UnmapListFault
unmap_list bytes =
    if length bytes == 0 then Ok []
    else (if nat_lt (length bytes) unmap_header_length then Err Short
    else (if nat_lt maximum_unmap_descriptors (descriptor_count bytes) then Err TooManyDescriptors
    else Ok (first_descriptors bytes (descriptor_count bytes))))
