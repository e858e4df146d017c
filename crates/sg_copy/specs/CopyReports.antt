-- What a copy manager reports: the limits of EXTENDED COPY (SPC-4, 6.23), and how a copy ended (SPC-4, 6.25).
use Rattle.std.specs.Prelude.{ℕ, ◌*◌, List, [], ◌∷◌, Option, Some, None}
use Rattle.sg_wire.specs.Fields.{Field, field, fields_bytes}
use Rattle.sg_copy.specs.CopyList.{maximum_cscds, maximum_segments, maximum_descriptors_length}
use Rattle.sg_copy.specs.CopyList.{block_to_block, identification}
use Rattle.sg_copy.specs.declared.copy_list.Segment.{Segment}

-- AVAILABLE DATA, bytes 0 to 3 of each report: the length of what follows.
abbrev available_data : (following : ℕ) → Field
available_data following = field 4 following

abbrev reserved : (size : ℕ) → Field
reserved size = field size 0

-- The length of a logical block, in bytes, and as a power of two.
abbrev pub block_length : ℕ
block_length = 512

abbrev pub block_exponent : ℕ
block_exponent = 9

-- ---- RECEIVE COPY OPERATING PARAMETERS

-- SNLID 1, byte 4: LIST ID USAGE may be 11b, no LIST IDENTIFIER.
abbrev snlid : Field
snlid = field 1 0x01

-- MAXIMUM CSCD DESCRIPTOR COUNT, bytes 8 and 9; MAXIMUM SEGMENT DESCRIPTOR COUNT, bytes 10 and 11; and
-- MAXIMUM DESCRIPTOR LIST LENGTH, bytes 12 to 15.
abbrev maximum_cscd_count : Field
maximum_cscd_count = field 2 maximum_cscds

abbrev maximum_segment_count : Field
maximum_segment_count = field 2 maximum_segments

abbrev maximum_list_length : Field
maximum_list_length = field 4 maximum_descriptors_length

-- MAXIMUM SEGMENT LENGTH, bytes 16 to 19, in bytes. 0 would mean that there is no limit.
abbrev maximum_segment_length : (maximum_blocks : ℕ) → Field
maximum_segment_length maximum_blocks = field 4 (block_length * maximum_blocks)

-- MAXIMUM INLINE DATA LENGTH, HELD DATA LIMIT and MAXIMUM STREAM DEVICE TRANSFER SIZE, bytes 20 to 31: there
-- is no such data.
abbrev no_other_data : Field
no_other_data = field 12 0

-- TOTAL CONCURRENT COPIES, bytes 34 and 35, and MAXIMUM CONCURRENT COPIES, byte 36.
abbrev total_concurrent_copies : Field
total_concurrent_copies = field 2 1

abbrev maximum_concurrent_copies : Field
maximum_concurrent_copies = field 1 1

-- DATA SEGMENT GRANULARITY, INLINE DATA GRANULARITY and HELD DATA GRANULARITY, bytes 37 to 39: a block.
abbrev granularity : Field
granularity = field 1 block_exponent

-- IMPLEMENTED DESCRIPTOR LIST LENGTH, byte 43, and the DESCRIPTOR TYPE CODEs in ascending order.
abbrev implemented_length : Field
implemented_length = field 1 2

unfoldable pub operating_parameters : (maximum_blocks : ℕ) → List ℕ
operating_parameters maximum_blocks =
    fields_bytes (
    available_data 42
    ∷ snlid
    ∷ reserved 3
    ∷ maximum_cscd_count
    ∷ maximum_segment_count
    ∷ maximum_list_length
    ∷ maximum_segment_length maximum_blocks
    ∷ no_other_data
    ∷ reserved 2
    ∷ total_concurrent_copies
    ∷ maximum_concurrent_copies
    ∷ granularity
    ∷ granularity
    ∷ granularity
    ∷ reserved 3
    ∷ implemented_length
    ∷ field 1 block_to_block
    ∷ field 1 identification
    ∷ []
    )

-- ---- RECEIVE COPY STATUS(LID1), of a copy that ended without errors

-- HDD 0 and COPY COMMAND STATUS 01h, byte 4: the copy ended without errors.
abbrev ended : Field
ended = field 1 0x01

-- SEGMENTS PROCESSED, bytes 5 and 6.
abbrev segment_count : Option Segment → ℕ
segment_count None = 0
segment_count (Some segment) = 1

-- TRANSFER COUNT UNITS 00h, byte 7: TRANSFER COUNT, bytes 8 to 11, is in bytes.
abbrev in_bytes : Field
in_bytes = field 1 0x00

abbrev transfer_count : Option Segment → ℕ
transfer_count None = 0
transfer_count (Some segment) = block_length * segment.blocks

unfoldable pub copy_status : Option Segment → List ℕ
copy_status segment =
    fields_bytes (
    available_data 8
    ∷ ended
    ∷ field 2 (segment_count segment)
    ∷ in_bytes
    ∷ field 4 (transfer_count segment)
    ∷ []
    )
