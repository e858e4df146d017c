-- What a power cycle leaves of a disk. A file keeps all of it, and nothing else.
use Rattle.std.specs.Prelude.{ℕ}
use Rattle.sg_faults.specs.Faults.{Faults, no_faults}
use Rattle.sg_pages.specs.Identity.{IdentityFields}
use Rattle.sg_pages.specs.ModePage.{default_values}
use Rattle.sg_pages.specs.declared.mode_pages.mode_page.PageValues.{PageValues}
use Rattle.sg_store.specs.Disk.{Disk, empty_disk}
use Rattle.sg_units.specs.PowerOn.{empty_state}
use Rattle.sg_units.specs.declared.reservation_state.ReservationState.{ReservationState}

pub record KeptFields : Type 0 where
  -- What the disk was made as.
  pub identity : IdentityFields
  -- Its capacity, its pool and its blocks.
  pub disk : Disk
  -- The saved values of the mode pages (SPC-4, 7.5).
  pub saved : PageValues
  -- Registrations and reservation if they persist through a power loss, and otherwise none.
  -- PRGENERATION is 0 (SPC-4, 5.13).
  pub reservations : ReservationState
  -- The faults that are armed.
  pub faults : Faults

-- A new disk. No block is mapped, the mode pages have their default values, no initiator is
-- registered, and no fault is armed.
abbrev pub blank : (capacity pool : ℕ) → IdentityFields → KeptFields
blank capacity pool identity = record {
  identity = identity;
  disk = empty_disk capacity pool;
  saved = default_values identity.profile;
  reservations = empty_state;
  faults = no_faults;
}
