-- A disk that is made anew by changes, run by run, from its first address on.
use Rattle.std.specs.Prelude.{◌≡◌, ◌<◌, ◌+◌, ◌-◌, ℕ, List, [], ◌∷◌}
use Rattle.sg_store.specs.Disk.{Contents, Disk, blocks, disk_unmapped}
use Rattle.sg_store.specs.LbaStatus.{status_at}
use Rattle.sg_wire.specs.declared.extent.Extent.{Extent}
use Rattle.sg_wire.specs.declared.lba_status.ProvisioningStatus.{ProvisioningStatus}
use Rattle.sg_wire.specs.declared.lba_status.ProvisioningStatus.TheVariants.{Mapped, Deallocated}
use Rattle.sg_wire.specs.declared.lba_status.ProvisioningStatus.TheVariants.{Anchored}
use Rattle.sg_changes.specs.Change.{Change}
use Rattle.sg_changes.specs.Change.Change.{Write, Anchor}
use Rattle.sg_changes.specs.KeptFields.{KeptFields}

-- The disk below an address: all addresses from there on are unmapped.
abbrev pub disk_below : Disk → (end : ℕ) → Disk
disk_below disk end = disk_unmapped disk end (disk.capacity - end)

-- The same of all that is kept.
abbrev pub kept_below : KeptFields → (end : ℕ) → KeptFields
kept_below kept end = record kept { disk = disk_below kept.disk end }

-- All addresses of an extent have this provisioning status.
abbrev pub HasStatus : Contents → Extent → ProvisioningStatus → Type 0
HasStatus contents extent status =
    (index : ℕ) → index < extent.count → status_at contents (extent.lba + index) ≡ status

-- The changes that give a disk the addresses of an extent, which all have one provisioning status.
abbrev pub run_changes : Contents → Extent → ProvisioningStatus → List Change
run_changes contents extent Mapped =
    Write extent (blocks contents extent.lba extent.count) ∷ []
run_changes contents extent Anchored = Anchor extent ∷ []
run_changes contents extent Deallocated = []

-- The number of blocks of the pool that `count` addresses of one provisioning status have.
abbrev pub pool_blocks : ProvisioningStatus → (count : ℕ) → ℕ
pool_blocks Mapped count = count
pool_blocks Anchored count = count
pool_blocks Deallocated count = 0
