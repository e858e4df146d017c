-- The parameter list of EXTENDED COPY(LID1) (SPC-4, 6.5): what the disk supports, and what a list asks for.
-- CSCD descriptors identify the copy source and the copy destination. Here both are the one logical unit. A
-- segment descriptor says which blocks are copied where.
use Rattle.std.specs.Prelude.{◌≤◌, ℕ, ◌+◌, ◌*◌, ◌/◌, ◌%◌, ◌==◌, Bool, not, ◌&&◌, nat_lt, if◌then◌else◌}
use Rattle.std.specs.Prelude.{List, [], ◌∷◌, ◌++◌, length, take, drop, map, find, slice_index}
use Rattle.std.specs.Prelude.{Option, Some, None, Result, Ok, Err}
use Rattle.std.specs.Option.{option_map, option_map_or}
use Rattle.std.specs.List.{range_with_len}
use Rattle.std.specs.Str.{bytes_eq}
use Rattle.byteorder.specs.Endian.{big_number}
use Rattle.sg_wire.specs.Bits.{bits_of, has_bit}
use Rattle.sg_copy.specs.declared.copy_list.CopyList.{CopyList}
use Rattle.sg_copy.specs.declared.copy_list.Segment.{Segment}
use Rattle.sg_copy.specs.declared.fault.Invalid.TheVariants.{Field, TooManyCscds, CscdType}
use Rattle.sg_copy.specs.declared.fault.Invalid.TheVariants.{TooManySegments, SegmentType, InlineData}
use Rattle.sg_copy.specs.declared.fault.CopyFault.{CopyFault}
use Rattle.sg_copy.specs.declared.fault.CopyFault.TheVariants.{Length, InvalidAt}
use Rattle.sg_copy.specs.declared.fault.CopyFault.TheVariants.{NotReachable, OtherDeviceType, PastCapacity}

-- ---- Limits

abbrev pub maximum_cscds : ℕ
maximum_cscds = 2

abbrev pub maximum_segments : ℕ
maximum_segments = 1

-- The most bytes of all descriptors together.
abbrev pub maximum_descriptors_length : ℕ
maximum_descriptors_length = 1024

-- ---- Layout

-- In bytes: the header, a CSCD descriptor, a segment descriptor, and what follows DESCRIPTOR LENGTH of a
-- segment descriptor.
abbrev pub header_length : ℕ
header_length = 16

abbrev pub cscd_length : ℕ
cscd_length = 32

abbrev pub segment_length : ℕ
segment_length = 28

abbrev pub segment_following_length : ℕ
segment_following_length = 24

-- The one DESCRIPTOR TYPE CODE of each that the disk supports. A CSCD is identified by a designator, and
-- blocks are copied to blocks.
abbrev pub identification : ℕ
identification = 0xE4

abbrev pub block_to_block : ℕ
block_to_block = 0x02

-- LIST IDENTIFIER, and LIST ID USAGE with two of its values.
abbrev pub list_identifier : (list : List ℕ) → ℕ
list_identifier list = slice_index list 0

abbrev pub list_id_usage : (list : List ℕ) → ℕ
list_id_usage list = bits_of (slice_index list 1) 4 3

abbrev pub reserved_usage : ℕ
reserved_usage = 1

abbrev pub no_identifier : ℕ
no_identifier = 3

-- CSCD DESCRIPTOR LIST LENGTH, SEGMENT DESCRIPTOR LIST LENGTH and INLINE DATA LENGTH.
abbrev pub cscds_length : (list : List ℕ) → ℕ
cscds_length list = big_number 2 (drop 2 list)

abbrev pub segments_length : (list : List ℕ) → ℕ
segments_length list = big_number 4 (drop 8 list)

abbrev pub inline_length : (list : List ℕ) → ℕ
inline_length list = big_number 4 (drop 12 list)

-- The first bytes of a CSCD descriptor, by its CSCD DESCRIPTOR ID, and of the first segment descriptor.
abbrev pub cscd_at : (id : ℕ) → ℕ
cscd_at id = header_length + cscd_length * id

abbrev pub segment_at : (list : List ℕ) → ℕ
segment_at list = header_length + cscds_length list

abbrev pub cscd_count : (list : List ℕ) → ℕ
cscd_count list = cscds_length list / cscd_length

-- ---- Checks

-- A check refuses a list if its condition holds.
pub record Check : Type 0 where
  pub is_bad : Bool
  pub fault : CopyFault

abbrev pub refuse_if : Bool → CopyFault → Check
refuse_if is_bad fault = record { is_bad = is_bad; fault = fault }

-- The fault of the first check that refuses.
abbrev pub first_fault : List Check → Option CopyFault
first_fault checks = option_map (λ (c : Check). c.fault) (find (λ (c : Check). c.is_bad) checks)

-- The list is whole, and its descriptors are not too long.
abbrev pub length_checks : (list : List ℕ) → List Check
length_checks list =
    refuse_if (nat_lt (length list) header_length) Length
    ∷ refuse_if (nat_lt maximum_descriptors_length (cscds_length list + segments_length list)) Length
    ∷ refuse_if
    (nat_lt (length list)
    (header_length + (cscds_length list + segments_length list) + inline_length list)) Length
    ∷ []

-- One value of LIST ID USAGE is reserved, and with another there is no LIST IDENTIFIER. There is no inline
-- data, and there are not too many CSCD descriptors. STR and PRIORITY change nothing. Reserved bits are
-- ignored.
-- Choice (SPC-4, 6.5): reserved bits may be refused.
abbrev pub header_checks : (list : List ℕ) → List Check
header_checks list =
    refuse_if (list_id_usage list == reserved_usage) (InvalidAt Field 1)
    ∷ refuse_if (list_id_usage list == no_identifier && not (list_identifier list == 0))
    (InvalidAt Field 0)
    ∷ refuse_if (not (inline_length list == 0)) (InvalidAt InlineData 12)
    ∷ refuse_if (nat_lt (cscd_length * maximum_cscds) (cscds_length list)) (InvalidAt TooManyCscds 2)
    ∷ []

-- Each CSCD descriptor is whole, and of the supported type. One that is not whole has no such type.
-- Choice (SPC-4, 6.5): a descriptor that is not whole may be another fault.
abbrev pub type_check : (list : List ℕ) → (id : ℕ) → Check
type_check list id =
    refuse_if (not (slice_index list (cscd_at id) == identification)) (InvalidAt CscdType (cscd_at id))

abbrev pub cscd_checks : (list : List ℕ) → List Check
cscd_checks list =
    refuse_if (not (cscds_length list % cscd_length == 0)) (InvalidAt CscdType 2)
    ∷ map (type_check list) (range_with_len 0 (cscd_count list))

-- SOURCE CSCD DESCRIPTOR ID, DESTINATION CSCD DESCRIPTOR ID and BLOCK DEVICE NUMBER OF BLOCKS. CAT and DC
-- change nothing, because source and destination have blocks of one length.
abbrev pub source_id : (list : List ℕ) → ℕ
source_id list = big_number 2 (drop (segment_at list + 4) list)

abbrev pub destination_id : (list : List ℕ) → ℕ
destination_id list = big_number 2 (drop (segment_at list + 6) list)

abbrev pub block_count : (list : List ℕ) → ℕ
block_count list = big_number 2 (drop (segment_at list + 10) list)

-- The first segment descriptor is of the supported type. There is no other one, and it is whole. It does not
-- copy too many blocks.
-- Choice (SPC-4, 6.5): a segment may be longer.
abbrev pub segment_checks : (maximum_blocks : ℕ) → (list : List ℕ) → List Check
segment_checks maximum_blocks list =
    refuse_if (not (slice_index list (segment_at list) == block_to_block))
    (InvalidAt SegmentType (segment_at list))
    ∷ refuse_if (nat_lt (segment_length * maximum_segments) (segments_length list))
    (InvalidAt TooManySegments 8)
    ∷ refuse_if (not (segments_length list == segment_length)) (InvalidAt Field 8)
    ∷ refuse_if
    (not (big_number 2 (drop (segment_at list + 2) list) == segment_following_length))
    (InvalidAt Field (segment_at list + 2))
    ∷ refuse_if (nat_lt maximum_blocks (block_count list)) (InvalidAt Field (segment_at list + 10))
    ∷ []

-- NUL of SPC-3, which is reserved in SPC-4: the CSCD is no unit.
abbrev pub is_null : (list : List ℕ) → (id : ℕ) → Bool
is_null list id = has_bit (slice_index list (cscd_at id + 1)) 0x20

-- A CSCD descriptor identifies the unit: from CODE SET on it has the designation descriptor of the unit in
-- page 83h. Reserved bits among them have to be zero. LU ID TYPE, RELATIVE INITIATOR PORT IDENTIFIER, PAD and
-- DISK BLOCK LENGTH are ignored.
abbrev pub identifies : (designation : List ℕ) → (list : List ℕ) → (id : ℕ) → Bool
identifies designation list id =
    not (is_null list id)
    && bytes_eq (take (length designation) (drop (cscd_at id + 4) list)) designation

-- A CSCD DESCRIPTOR ID leads to the unit: it has a descriptor, which identifies the unit and has its
-- PERIPHERAL DEVICE TYPE.
-- Choice (SPC-4, 6.5): FFFFh may name the unit of the copy manager without a descriptor.
abbrev pub cscd_id_checks : (designation : List ℕ) → (list : List ℕ) → (id : ℕ) → List Check
cscd_id_checks designation list id =
    refuse_if (not (nat_lt id (cscd_count list) && identifies designation list id)) NotReachable
    ∷ refuse_if (not (bits_of (slice_index list (cscd_at id + 1)) 4 0 == 0)) OtherDeviceType
    ∷ []

-- The blocks that are read, and then the blocks that are written, are on the unit.
abbrev pub range_check : (capacity lba blocks : ℕ) → Check
range_check capacity lba blocks = refuse_if (nat_lt capacity (lba + blocks)) PastCapacity

abbrev pub range_checks : (capacity : ℕ) → Segment → List Check
range_checks capacity segment =
    range_check capacity segment.source segment.blocks
    ∷ range_check capacity segment.destination segment.blocks ∷ []

-- SOURCE BLOCK DEVICE LOGICAL BLOCK ADDRESS, DESTINATION BLOCK DEVICE LOGICAL BLOCK ADDRESS, and the number
-- of blocks.
abbrev pub segment_of : (list : List ℕ) → Segment
segment_of list = record {
  source = big_number 8 (drop (segment_at list + 12) list);
  destination = big_number 8 (drop (segment_at list + 20) list);
  blocks = block_count list;
}

-- The checks of each list.
abbrev pub list_checks : (list : List ℕ) → List Check
list_checks list = length_checks list ++ header_checks list ++ cscd_checks list

-- When the segment is processed, its CSCD DESCRIPTOR IDs and its blocks are checked.
abbrev pub processing_checks : (designation : List ℕ) → (capacity : ℕ) → (list : List ℕ) → List Check
processing_checks designation capacity list =
    (cscd_id_checks designation list (source_id list)
    ++ cscd_id_checks designation list (destination_id list))
    ++ range_checks capacity (segment_of list)

-- The checks of a list with a segment descriptor.
abbrev pub copy_checks : (designation : List ℕ) → (maximum_blocks capacity : ℕ) → (list : List ℕ) → List Check
copy_checks designation maximum_blocks capacity list =
    segment_checks maximum_blocks list ++ processing_checks designation capacity list

-- All of them, in this order.
-- Choice (SPC-4, 6.5): the faults of a list may be found in another order.
abbrev pub checks : (designation : List ℕ) → (maximum_blocks capacity : ℕ) → (list : List ℕ) → List Check
checks designation maximum_blocks capacity list =
    list_checks list
    ++ (if segments_length list == 0 then [] else copy_checks designation maximum_blocks capacity list)

-- ---- What a list asks for

-- RECEIVE COPY STATUS finds the copy under its LIST IDENTIFIER, if it has one. LIST ID USAGE 10b only lets
-- held data go, and there is none.
abbrev pub identifier : (list : List ℕ) → Option ℕ
identifier list = if list_id_usage list == no_identifier then None else Some (list_identifier list)

abbrev pub asked : (list : List ℕ) → CopyList
asked list = record {
  identifier = identifier list;
  segment = if segments_length list == 0 then None else Some (segment_of list);
}

abbrev pub nothing_asked : CopyList
nothing_asked = record { identifier = None; segment = None }

-- What a list asks for, on a unit with this designation descriptor that copies at most this number of blocks,
-- and has this number of blocks. A list of no bytes asks for nothing.
abbrev pub copy_list : (designation : List ℕ) → (maximum_blocks capacity : ℕ) → (list : List ℕ)
    → Result CopyList CopyFault
copy_list designation maximum_blocks capacity list =
    if length list == 0 then Ok nothing_asked
    else option_map_or Err (first_fault (checks designation maximum_blocks capacity list)) (Ok (asked list))

-- A segment has at most this number of blocks, and all of them are on the unit.
pub record IsPossible (maximum_blocks capacity : ℕ) (segment : Segment) : Type 0 where
  pub blocks : segment.blocks ≤ maximum_blocks
  pub source : segment.source + segment.blocks ≤ capacity
  pub destination : segment.destination + segment.blocks ≤ capacity
