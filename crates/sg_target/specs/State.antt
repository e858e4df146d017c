-- The state of the disk between two commands.
use Rattle.std.specs.Prelude.{◌≤◌, Bool}
use Rattle.std.specs.FinMap.{len}
use Rattle.sg_wire.specs.declared.profile.Profile.{Profile}
use Rattle.sg_store.specs.Disk.{Disk, IsWellFormed}
use Rattle.sg_pages.specs.Identity.{IdentityFields}
use Rattle.sg_pages.specs.ModePage.{ModeState}
use Rattle.sg_pages.specs.declared.provisioning_pages.MappingResources.{MappingResources}
use Rattle.sg_units.specs.Attentions.{ArePending, Pending}
use Rattle.sg_units.specs.Reservations.{IsConsistent}
use Rattle.sg_units.specs.declared.reservation_state.ReservationState.{ReservationState}
use Rattle.sg_target.specs.Config.{ConfigFields}

pub record State : Type 0 where
  pub identity : IdentityFields
  pub disk : Disk
  pub modes : ModeState
  pub attentions : Pending
  pub reservations : ReservationState
  -- START STOP UNIT has stopped the unit (SBC-3, 5.25)
  pub stopped : Bool

-- The configuration of the disk, and its profile. No command changes them.
abbrev pub config_of : State → ConfigFields
config_of state =
    record { blocks = state.disk.capacity; pool = state.disk.pool; identity = state.identity }

abbrev pub profile_of : State → Profile
profile_of state = state.identity.profile

-- The capacity, the pool, and how many addresses have a block of it.
abbrev pub resources_of : State → MappingResources
resources_of state = record {
  capacity = state.disk.capacity;
  blocks = state.disk.pool;
  used = len state.disk.contents;
}

-- No table of the disk is past its limit. No more addresses are used than the pool has blocks. Each of
-- the 64 initiators has a queue of at most sixteen pending conditions, all distinct. No initiator is
-- registered twice, or under the key 0. A reservation has the holders of its type. Each used address is
-- below the capacity, and data is blocks of 512 bytes.
pub record IsWithinLimits (state : State) : Type 0 where
  pub used : len state.disk.contents ≤ state.disk.pool
  pub pending : ArePending state.attentions
  pub registered : IsConsistent state.reservations
  pub blocks : IsWellFormed state.disk.capacity state.disk.contents
