-- GET LBA STATUS parameter data: a header and descriptors (SBC-3, 5.4.2).
use Rattle.std.specs.Prelude.{ℕ, ◌+◌, ◌*◌, List, ◌∷◌, ◌++◌, length, replicate}
use Rattle.std.specs.List.{flat_map}
use Rattle.byteorder.specs.Endian.{big_bytes}
use Rattle.sg_wire.specs.declared.lba_status.ProvisioningStatus.{ProvisioningStatus}
use Rattle.sg_wire.specs.declared.lba_status.ProvisioningStatus.TheVariants.{Mapped, Deallocated}
use Rattle.sg_wire.specs.declared.lba_status.ProvisioningStatus.TheVariants.{Anchored}
use Rattle.sg_wire.specs.declared.lba_status.StatusDescriptor.{StatusDescriptor}

-- In bytes: its header, and each descriptor after it.
abbrev pub status_header_length : ℕ
status_header_length = 8

abbrev pub status_descriptor_length : ℕ
status_descriptor_length = 16

abbrev pub status_data_length : (descriptors : ℕ) → ℕ
status_data_length descriptors = status_header_length + status_descriptor_length * descriptors

-- The code of a provisioning status.
-- Choice (SBC-3, 5.4.2): status 0 may mean unknown, too.
abbrev pub code_of : ProvisioningStatus → ℕ
code_of Mapped = 0
code_of Deallocated = 1
code_of Anchored = 2

-- LOGICAL BLOCK ADDRESS, NUMBER OF LOGICAL BLOCKS, PROVISIONING STATUS and three reserved bytes.
abbrev pub descriptor_bytes : StatusDescriptor → List ℕ
descriptor_bytes descriptor =
    big_bytes 8 descriptor.lba
    ++ (big_bytes 4 descriptor.count ++ (code_of descriptor.status ∷ replicate 3 0))

-- PARAMETER DATA LENGTH, the number of all bytes after it, and four reserved bytes.
abbrev pub status_header : (count : ℕ) → List ℕ
status_header count = big_bytes 4 (4 + status_descriptor_length * count) ++ replicate 4 0

-- The whole parameter data.
unfoldable pub status_data : List StatusDescriptor → List ℕ
status_data descriptors =
    status_header (length descriptors) ++ flat_map descriptor_bytes descriptors
