-- The changes that commands make to what a power cycle leaves.
use Rattle.std.specs.FinMap.{len}
use Rattle.std.specs.Prelude.{ℕ, ◌+◌, ◌*◌, ◌==◌, Bool, ◌&&◌, nat_le, nat_lt, List, [], ◌∷◌, length}
use Rattle.std.specs.Prelude.{Option, Some, None, if◌then◌else◌, option_and_then, option_map}
use Rattle.sg_pages.specs.declared.mode_pages.mode_page.PageValues.{PageValues}
use Rattle.sg_store.specs.Disk.{Disk, block_length, max_capacity}
use Rattle.sg_store.specs.Disk.{disk_written, disk_filled, disk_unmapped, disk_anchored, disk_grown}
use Rattle.sg_units.specs.PowerOn.{empty_state}
use Rattle.sg_units.specs.Restored.{restored_state}
use Rattle.sg_units.specs.declared.registrations.Registration.{Registration}
use Rattle.sg_units.specs.declared.reservation.Reservation.{Reservation}
use Rattle.sg_units.specs.declared.reservation_state.ReservationState.{ReservationState}
use Rattle.sg_faults.specs.declared.fault.ArmedFault.{ArmedFault}
use Rattle.sg_wire.specs.declared.extent.Extent.{Extent}
use Rattle.sg_changes.specs.KeptFields.{KeptFields}

-- Registrations and reservation that persist through a power loss.
pub record Persistent : Type 0 where
  pub registrations : List Registration
  pub reservation : Option Reservation

-- Those of a state, if they persist.
abbrev pub persistent_of : ReservationState → Option Persistent
persistent_of state =
    if state.persists_through_power_loss
    then Some (record { registrations = state.registrations; reservation = state.reservation })
    else None

pub data Change : Type 0 where
  -- The blocks of an extent are replaced by joined blocks.
  Write : (extent : Extent) (blocks : List ℕ) → Change
  -- Each block of an extent is replaced by one block.
  Fill : (extent : Extent) (block : List ℕ) → Change
  -- The addresses from one on have no block of the pool any more.
  Unmap : (lba count : ℕ) → Change
  -- The addresses of an extent are anchored.
  Anchor : (extent : Extent) → Change
  -- The saved values of all mode pages.
  Pages : (saved : PageValues) → Change
  -- Registrations and reservation, if they persist through a power loss.
  Reservations : (persistent : Option Persistent) → Change
  -- The armed faults, by their numbers.
  Faults : (slots : List (Option ArmedFault)) → Change
  -- The disk has more addresses.
  Grow : (capacity : ℕ) → Change

-- ---- The blocks after a change

-- A range is on a disk.
abbrev pub has_range : Disk → (lba count : ℕ) → Bool
has_range disk lba count = nat_le (lba + count) disk.capacity

-- A disk, unless it needs more blocks than its pool has.
abbrev pub within_pool : Disk → Option Disk
within_pool disk = if nat_lt disk.pool (len disk.contents) then None else Some disk

-- None if an address is past the capacity, if the pool has too few blocks, or if there are fewer or
-- more bytes than the blocks have.
abbrev pub written : Disk → Extent → (blocks : List ℕ) → Option Disk
written disk extent blocks =
    if has_range disk extent.lba extent.count && length blocks == block_length * extent.count
    then within_pool (disk_written disk extent.lba extent.count blocks) else None

abbrev pub filled : Disk → Extent → (block : List ℕ) → Option Disk
filled disk extent block =
    if has_range disk extent.lba extent.count && length block == block_length
    then within_pool (disk_filled disk extent.lba extent.count block) else None

abbrev pub unmapped : Disk → (lba count : ℕ) → Option Disk
unmapped disk lba count =
    if has_range disk lba count then Some (disk_unmapped disk lba count) else None

abbrev pub anchored : Disk → Extent → Option Disk
anchored disk extent =
    if has_range disk extent.lba extent.count
    then within_pool (disk_anchored disk extent.lba extent.count) else None

-- None if the disk would have fewer addresses, or more than a disk can have.
abbrev pub grown : Disk → (capacity : ℕ) → Option Disk
grown disk capacity =
    if nat_le disk.capacity capacity && nat_le capacity max_capacity
    then Some (disk_grown disk capacity) else None

-- ---- The registrations and the reservation after a change

-- The state after power on. None if it would not be consistent.
abbrev pub restored : Option Persistent → Option ReservationState
restored None = Some empty_state
restored (Some p) = restored_state p.registrations p.reservation

-- ---- What a change leaves

abbrev pub with_disk : KeptFields → Option Disk → Option KeptFields
with_disk kept disk = option_map (λ d. record kept { disk = d }) disk

-- What is kept after a change. None if the change does not apply.
abbrev pub applied : KeptFields → Change → Option KeptFields
applied kept (Write extent blocks) = with_disk kept (written kept.disk extent blocks)
applied kept (Fill extent block) = with_disk kept (filled kept.disk extent block)
applied kept (Unmap lba count) = with_disk kept (unmapped kept.disk lba count)
applied kept (Anchor extent) = with_disk kept (anchored kept.disk extent)
applied kept (Pages saved) = Some (record kept { saved = saved })
applied kept (Reservations persistent) =
    option_map (λ r. record kept { reservations = r }) (restored persistent)
applied kept (Faults slots) = Some (record kept { faults = slots })
applied kept (Grow capacity) = with_disk kept (grown kept.disk capacity)

-- What is kept after some changes, one after another.
abbrev pub applied_all : KeptFields → List Change → Option KeptFields
applied_all kept [] = Some kept
applied_all kept (change ∷ changes) =
    option_and_then (λ k. applied_all k changes) (applied kept change)
