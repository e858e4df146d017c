-- The pages of a thin provisioned disk: Block Limits and Logical Block Provisioning (SBC-3, vital
-- product data parameters), and the log page Logical Block Provisioning (SBC-3, log parameters).
use Rattle.std.specs.Prelude.{ℕ, ◌-◌, ◌/◌, ◌^◌, List, [], ◌∷◌, ◌++◌, nat_le, nat_lt}
use Rattle.std.specs.Prelude.{if◌then◌else◌}
use Rattle.sg_wire.specs.Fields.{Field, field, fields_bytes}
use Rattle.sg_wire.specs.UnmapList.{maximum_unmap_descriptors}
use Rattle.sg_pages.specs.PhysicalBlock.{blocks_in}
use Rattle.sg_pages.specs.declared.physical_block.PhysicalBlock.{PhysicalBlock}
use Rattle.sg_wire.specs.declared.profile.Limits.{Limits}
use Rattle.sg_wire.specs.declared.profile.Profile.{Profile}
use Rattle.sg_wire.specs.declared.profile.Profile.TheVariants.{Base, Extended}
use Rattle.sg_pages.specs.declared.provisioning_pages.MappingResources.{MappingResources}

-- ---- Block Limits, from byte 4 of the page on

-- WSNZ 1, byte 4: a NUMBER OF LOGICAL BLOCKS of 0 in WRITE SAME is refused.
abbrev wsnz : Field
wsnz = field 1 0x01

-- MAXIMUM COMPARE AND WRITE LENGTH, byte 5, in blocks: 0 on a disk without the command.
abbrev compare_and_write_length : Limits → Field
compare_and_write_length limits = field 1 limits.compare_and_write_length

-- OPTIMAL TRANSFER LENGTH GRANULARITY, bytes 6 and 7, in blocks: a physical block.
abbrev transfer_granularity : PhysicalBlock → Field
transfer_granularity physical = field 2 (blocks_in physical)

-- MAXIMUM TRANSFER LENGTH, bytes 8 to 11, in blocks.
abbrev transfer_length : Limits → Field
transfer_length limits = field 4 limits.transfer_length

-- OPTIMAL TRANSFER LENGTH, bytes 12 to 15, and MAXIMUM PREFETCH LENGTH, bytes 16 to 19, in blocks:
-- not reported.
abbrev optimal_transfer_length : Field
optimal_transfer_length = field 4 0

abbrev prefetch_length : Field
prefetch_length = field 4 0

-- MAXIMUM UNMAP LBA COUNT, bytes 20 to 23, in blocks: as many as the descriptors name.
abbrev unmap_lba_count : Field
unmap_lba_count = field 4 0xFFFFFFFF

-- MAXIMUM UNMAP BLOCK DESCRIPTOR COUNT, bytes 24 to 27: the most that a parameter list has.
abbrev unmap_descriptor_count : Field
unmap_descriptor_count = field 4 maximum_unmap_descriptors

-- OPTIMAL UNMAP GRANULARITY, bytes 28 to 31, in blocks: a physical block.
abbrev unmap_granularity : PhysicalBlock → Field
unmap_granularity physical = field 4 (blocks_in physical)

-- UGAVALID and UNMAP GRANULARITY ALIGNMENT, bytes 32 to 35: not reported.
abbrev unmap_alignment : Field
unmap_alignment = field 4 0

-- MAXIMUM WRITE SAME LENGTH, bytes 36 to 43, in blocks.
abbrev write_same_length : Limits → Field
write_same_length limits = field 8 limits.write_same_length

-- MAXIMUM ATOMIC TRANSFER LENGTH, bytes 44 to 47, in blocks: 0 on a disk without WRITE ATOMIC. It is a
-- field of SBC-4.
-- Choice (SBC-4, WRITE ATOMIC): a disk that follows SBC-3 need not have the command or the field.
abbrev atomic_transfer_length : Limits → Field
atomic_transfer_length limits = field 4 limits.atomic_transfer_length

-- Bytes 48 to 63. SBC-4 has there how atomic writes have to be aligned, and the limits for atomic
-- boundaries: none.
abbrev reserved : Field
reserved = field 16 0

unfoldable pub block_limits : Limits → PhysicalBlock → List ℕ
block_limits limits physical =
    fields_bytes (
    wsnz
    ∷ compare_and_write_length limits
    ∷ transfer_granularity physical
    ∷ transfer_length limits
    ∷ optimal_transfer_length
    ∷ prefetch_length
    ∷ unmap_lba_count
    ∷ unmap_descriptor_count
    ∷ unmap_granularity physical
    ∷ unmap_alignment
    ∷ write_same_length limits
    ∷ atomic_transfer_length limits
    ∷ reserved
    ∷ []
    )

-- ---- Threshold sets (SBC-3, 4.7)

-- A threshold set has 2 ^ THRESHOLD EXPONENT blocks. It has two, or 512 on a disk with more sets of two than
-- four bytes can count. 0: the disk has no thresholds.
abbrev pub threshold_exponent : Profile → (capacity : ℕ) → ℕ
threshold_exponent Base capacity = 0
threshold_exponent Extended capacity = if nat_lt capacity (2 ^ 33) then 1 else 9

-- The whole threshold sets in a number of blocks, on a disk of a capacity.
-- Choice (SBC-3, log parameters): the standard does not say how a count is rounded.
unfoldable pub threshold_sets : Profile → (capacity blocks : ℕ) → ℕ
threshold_sets profile capacity blocks = blocks / 2 ^ threshold_exponent profile capacity

-- The threshold sets of the blocks of the pool that no address has, and of the blocks that mapped and
-- anchored addresses have.
abbrev pub available_sets : Profile → MappingResources → ℕ
available_sets profile pool = threshold_sets profile pool.capacity (pool.blocks - pool.used)

abbrev pub used_sets : Profile → MappingResources → ℕ
used_sets profile pool = threshold_sets profile pool.capacity pool.used

-- ---- Logical Block Provisioning, from byte 4 of the page on

-- THRESHOLD EXPONENT, byte 4.
abbrev exponent : Profile → (capacity : ℕ) → Field
exponent profile capacity = field 1 (threshold_exponent profile capacity)

-- LBPU, LBPWS, LBPWS10, LBPRZ and ANC_SUP 1, byte 5. UNMAP and WRITE SAME (16) and (10) unmap
-- blocks, unmapped blocks read as zeros, and blocks can be anchored. DP 0: no group descriptor
-- follows.
abbrev provisioning_bits : Field
provisioning_bits = field 1 0xE6

-- PROVISIONING TYPE 2, byte 6: thin provisioned.
abbrev provisioning_type : Field
provisioning_type = field 1 0x02

-- Byte 7.
abbrev reserved_byte : Field
reserved_byte = field 1 0

unfoldable pub logical_block_provisioning : Profile → (capacity : ℕ) → List ℕ
logical_block_provisioning profile capacity =
    fields_bytes
    (exponent profile capacity ∷ provisioning_bits ∷ provisioning_type ∷ reserved_byte ∷ [])

-- ---- The log page Logical Block Provisioning, from byte 4 of the page on

-- PARAMETER CODE of the available and of the used LBA mapping resource count.
abbrev pub available_code : ℕ
available_code = 0x0001

abbrev pub used_code : ℕ
used_code = 0x0002

-- The control byte of a log parameter: FORMAT AND LINKING 11b, a binary list (SPC-4, 7.3).
abbrev binary_list : Field
binary_list = field 1 0x03

-- PARAMETER LENGTH: the bytes that follow it.
abbrev parameter_length : Field
parameter_length = field 1 8

-- RESOURCE COUNT, in threshold sets.
abbrev resource_count : (sets : ℕ) → Field
resource_count sets = field 4 sets

-- SCOPE 01b: the resources are dedicated to the logical unit. Three reserved bytes follow.
abbrev scope : Field
scope = field 1 0x01

abbrev reserved_bytes : Field
reserved_bytes = field 3 0

-- A log parameter with a number of threshold sets.
abbrev pub resources : (code sets : ℕ) → List Field
resources code sets =
    field 2 code ∷ binary_list ∷ parameter_length ∷ resource_count sets ∷ scope ∷ reserved_bytes ∷ []

-- The parameter with a code, if PARAMETER POINTER asks for the parameters from a code on that is not
-- larger (SPC-4, 6.8).
abbrev pub from_pointer : (pointer code : ℕ) → (parameter : List Field) → List Field
from_pointer pointer code parameter = if nat_le pointer code then parameter else []

-- What is left of the pool, and what is used.
abbrev pub resource_parameters : Profile → MappingResources → (pointer : ℕ) → List Field
resource_parameters profile pool pointer =
    from_pointer pointer available_code (resources available_code (available_sets profile pool))
    ++ from_pointer pointer used_code (resources used_code (used_sets profile pool))
