-- The effects and the reports of the calls, address by address.
use Rattle.std.specs.FinMap.{contains_key, get, len}
use Rattle.std.specs.Prelude.{◌≡◌, ◌≢◌, ℕ, ◌+◌, ◌-◌, ◌<◌, ◌≤◌, if◌then◌else◌}
use Rattle.std.specs.Prelude.{Bool, List, All, length, find, Option, Some, option_map}
use Rattle.sg_store.specs.Disk.{Contents, Disk, Mapping, block, block_at, zero_block, lies_in}
use Rattle.sg_store.specs.Disk.{written, filled, unmapped, anchored, remapped}
use Rattle.sg_store.specs.Disk.{IsWellFormed, HasBlockLength, need}
use Rattle.sg_store.specs.LbaStatus.{covered, lba_status, max_addresses, max_descriptors, status_at}
use Rattle.sg_wire.specs.declared.lba_status.ProvisioningStatus.{ProvisioningStatus}
use Rattle.sg_wire.specs.declared.lba_status.ProvisioningStatus.TheVariants.{Mapped, Deallocated, Anchored}
use Rattle.sg_wire.specs.declared.lba_status.StatusDescriptor.{StatusDescriptor}

-- After a write, the block at an address is the one given for it inside the range, and the old one
-- outside.
abbrev pub WritesEachBlock : Type 0
WritesEachBlock = (contents : Contents) (lba count : ℕ) (bytes : List ℕ) (address : ℕ) →
    block (written contents lba count bytes) address
    ≡ (if lies_in lba count address then block_at bytes (address - lba) else block contents address)

-- After a write, the addresses of the range are mapped, and the others are as they were.
abbrev pub MapsEachAddress : Type 0
MapsEachAddress = (contents : Contents) (lba count : ℕ) (bytes : List ℕ) (address : ℕ) →
    status_at (written contents lba count bytes) address
    ≡ (if lies_in lba count address then Mapped else status_at contents address)

-- After a fill, the block at an address is the given block inside the range, and the old one
-- outside.
abbrev pub FillsEachBlock : Type 0
FillsEachBlock = (contents : Contents) (lba count : ℕ) (given : List ℕ) (address : ℕ) →
    block (filled contents lba count given) address
    ≡ (if lies_in lba count address then given else block contents address)

-- After a fill, the addresses of the range are mapped, and the others are as they were.
abbrev pub FillMapsEachAddress : Type 0
FillMapsEachAddress = (contents : Contents) (lba count : ℕ) (given : List ℕ) (address : ℕ) →
    status_at (filled contents lba count given) address
    ≡ (if lies_in lba count address then Mapped else status_at contents address)

-- After an unmap, the block at an address is zeros inside the range, and the old one outside.
abbrev pub UnmapsEachBlock : Type 0
UnmapsEachBlock = (contents : Contents) (lba count address : ℕ) →
    block (unmapped contents lba count) address
    ≡ (if lies_in lba count address then zero_block else block contents address)

-- After an unmap, the addresses of the range are deallocated, and the others are as they were.
abbrev pub UnmapsEachAddress : Type 0
UnmapsEachAddress = (contents : Contents) (lba count address : ℕ) →
    status_at (unmapped contents lba count) address
    ≡ (if lies_in lba count address then Deallocated else status_at contents address)

-- After an anchoring, the block at an address is zeros inside the range, and the old one outside.
abbrev pub AnchorZeroesEachBlock : Type 0
AnchorZeroesEachBlock = (contents : Contents) (lba count address : ℕ) →
    block (anchored contents lba count) address
    ≡ (if lies_in lba count address then zero_block else block contents address)

-- After an anchoring, the addresses of the range are anchored, and the others are as they were.
abbrev pub AnchorsEachAddress : Type 0
AnchorsEachAddress = (contents : Contents) (lba count address : ℕ) →
    status_at (anchored contents lba count) address
    ≡ (if lies_in lba count address then Anchored else status_at contents address)

-- The status of an address by the first descriptor that covers it, if one does.
abbrev pub covers : (address : ℕ) → StatusDescriptor → Bool
covers address descriptor = lies_in descriptor.lba descriptor.count address

abbrev pub status_of : StatusDescriptor → ProvisioningStatus
status_of descriptor = descriptor.status

abbrev pub status_reported : List StatusDescriptor → (address : ℕ) → Option ProvisioningStatus
status_reported descriptors address = option_map status_of (find (covers address) descriptors)

-- GET LBA STATUS reports the status of each address that it covers.
abbrev pub ReportsEachStatus : Type 0
ReportsEachStatus = (disk : Disk) (lba address : ℕ) →
    lba ≤ address → address < lba + covered (lba_status disk lba) →
    status_reported (lba_status disk lba) address ≡ Some (status_at disk.contents address)

-- It covers the addresses up to the end of the disk, unless it has no room for more descriptors.
abbrev pub CoversTheRest : Type 0
CoversTheRest = (disk : Disk) (lba : ℕ) →
    lba ≤ disk.capacity → length (lba_status disk lba) < max_descriptors →
    lba + covered (lba_status disk lba) ≡ disk.capacity

-- A descriptor that covers fewer addresses than it could ends before an address of another status.
abbrev pub EndsAtAnotherStatus : Disk → StatusDescriptor → Type 0
EndsAtAnotherStatus disk descriptor =
    let next = descriptor.lba + descriptor.count in
    descriptor.count < max_addresses → next < disk.capacity →
    status_at disk.contents next ≢ descriptor.status

-- Each descriptor that GET LBA STATUS reports covers as many addresses as it can.
abbrev pub CoversTheMost : Type 0
CoversTheMost = (disk : Disk) (lba : ℕ) → All (EndsAtAnotherStatus disk) (lba_status disk lba)

-- A disk stays well-formed if its addresses are mapped to whole blocks or anchored, if addresses are
-- deallocated, and if it gets more addresses.
pub record DisksStayWellFormed : Type 0 where
  pub mapping : (capacity : ℕ) (contents : Contents) (lba count : ℕ) (mappings : ℕ → Mapping)
      → IsWellFormed capacity contents → lba + count ≤ capacity
      → ((index : ℕ) → index < count → HasBlockLength (mappings index))
      → IsWellFormed capacity (remapped contents lba count mappings)
  pub unmapping : (capacity : ℕ) (contents : Contents) (lba count : ℕ)
      → IsWellFormed capacity contents → IsWellFormed capacity (unmapped contents lba count)
  pub growing : (capacity more : ℕ) (contents : Contents)
      → IsWellFormed capacity contents → capacity ≤ more → IsWellFormed more contents

-- An address that is remapped has what its index says, and others have what they had. Remapping
-- takes as many more blocks of the pool as the addresses need, which are at most as many as the
-- addresses. No address needs no block. One address more needs one, unless it has one.
pub record RemappingTakesWhatIsNeeded : Type 0 where
  pub found : (contents : Contents) (lba count : ℕ) (mapping : ℕ → Mapping) (address : ℕ)
      → get (remapped contents lba count mapping) address
      ≡ (if lies_in lba count address then Some (mapping (address - lba)) else get contents address)
  pub taken : (contents : Contents) (lba count : ℕ) (mapping : ℕ → Mapping)
      → len (remapped contents lba count mapping) ≡ len contents + need contents lba count
  pub at_most : (contents : Contents) (lba count : ℕ) → need contents lba count ≤ count
  pub of_none : (contents : Contents) (lba : ℕ) → need contents lba 0 ≡ 0
  pub of_one_more : (contents : Contents) (lba count : ℕ)
      → need contents lba (count + 1)
      ≡ need contents lba count + (if contains_key contents (lba + count) then 0 else 1)
