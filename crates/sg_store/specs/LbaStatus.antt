-- The provisioning status of a disk's addresses, as GET LBA STATUS returns it (SBC-3, 5.4).
use Rattle.std.specs.Prelude.{ℕ, ◌+◌, ◌-◌, zero, suc, if◌then◌else◌, ◌==◌}
use Rattle.std.specs.Prelude.{nat_lt, min, Option, Some, None, List, [], ◌∷◌, sum_by}
use Rattle.std.specs.List.{range_with_len, prefix_len}
use Rattle.std.specs.FinMap.{get}
use Rattle.sg_wire.specs.LbaStatus.{code_of}
use Rattle.sg_wire.specs.declared.lba_status.ProvisioningStatus.{ProvisioningStatus}
use Rattle.sg_wire.specs.declared.lba_status.ProvisioningStatus.TheVariants.{Mapped, Deallocated}
use Rattle.sg_wire.specs.declared.lba_status.ProvisioningStatus.TheVariants.{Anchored as AnchoredStatus}
use Rattle.sg_wire.specs.declared.lba_status.StatusDescriptor.{StatusDescriptor}
use Rattle.sg_store.specs.Disk.{Contents, Disk, Mapping}
use Rattle.sg_store.specs.Disk.Mapping.{Data, Anchored}

-- The most descriptors that an answer has, and the most addresses that one descriptor covers.
-- NUMBER OF LOGICAL BLOCKS has four bytes.
-- Choice (SBC-3, 5.4.2): an answer may have fewer descriptors.
abbrev pub max_descriptors : ℕ
max_descriptors = 512

abbrev pub max_addresses : ℕ
max_addresses = 0xFFFFFFFF

-- ---- Which descriptors an answer has

-- The status of an address by its mapping.
abbrev pub status_in : Option Mapping → ProvisioningStatus
status_in (Some (Data block)) = Mapped
status_in (Some Anchored) = AnchoredStatus
status_in None = Deallocated

abbrev pub status_at : Contents → (lba : ℕ) → ProvisioningStatus
status_at contents lba = status_in (get contents lba)

-- The number of addresses from one on that have its status, before an address with another status.
-- The count fits its field, and ends with the disk.
unfoldable pub count_alike : Contents → (capacity lba : ℕ) → ℕ
count_alike contents capacity lba =
    prefix_len (λ address. code_of (status_at contents address) == code_of (status_at contents lba))
    (range_with_len lba (min max_addresses (capacity - lba)))

-- The descriptor that begins at an address.
abbrev pub descriptor_at : Contents → (capacity lba : ℕ) → StatusDescriptor
descriptor_at contents capacity lba = record {
  lba = lba;
  count = count_alike contents capacity lba;
  status = status_at contents lba;
}

-- At most `limit` descriptors, up to the end of the disk. The first begins at an address, and each
-- next one at the end of the one before.
unfoldable pub descriptors_from : Contents → (capacity lba limit : ℕ) → List StatusDescriptor
descriptors_from contents capacity lba zero = []
descriptors_from contents capacity lba (suc limit) =
    if nat_lt lba capacity
    then descriptor_at contents capacity lba
    ∷ descriptors_from contents capacity (lba + count_alike contents capacity lba) limit
    else []

-- The descriptors of an answer.
abbrev pub lba_status : Disk → (lba : ℕ) → List StatusDescriptor
lba_status disk lba = descriptors_from disk.contents disk.capacity lba max_descriptors

-- The number of addresses that they cover.
abbrev pub covered : List StatusDescriptor → ℕ
covered descriptors = sum_by (λ (descriptor : StatusDescriptor). descriptor.count) descriptors
