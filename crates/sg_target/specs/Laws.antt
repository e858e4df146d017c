-- Laws of the definitions: of one step, and of commands on a list of extents.
use Rattle.std.specs.List.{list_any}
use Rattle.std.specs.Prelude.{◌≡◌, ◌≤◌, ℕ, List, Bool, true, false, Some, Ok, if◌then◌else◌}
use Rattle.sg_wire.specs.declared.extent.Extent.{Extent}
use Rattle.sg_store.specs.Disk.{block, lies_in, zero_block}
use Rattle.sg_store.specs.LbaStatus.{status_at}
use Rattle.sg_wire.specs.declared.lba_status.ProvisioningStatus.{ProvisioningStatus}
use Rattle.sg_wire.specs.declared.lba_status.ProvisioningStatus.TheVariants.{Deallocated, Anchored}
use Rattle.sg_target.specs.Armed.{Armed, armed_step}
use Rattle.sg_target.specs.Checks.{checked_effect}
use Rattle.sg_target.specs.Config.{ConfigFields}
use Rattle.sg_target.specs.Effect.{Effect}
use Rattle.sg_target.specs.Happenings.{after_happening}
use Rattle.sg_target.specs.ProvisioningCommands.{anchoring, unmapping}
use Rattle.sg_target.specs.State.{IsWithinLimits, State, config_of}
use Rattle.sg_target.specs.Step.{refusal_answer, sense_format, step}
use Rattle.sg_target.specs.declared.happening.Happening.{Happening}
use Rattle.sg_target.specs.declared.happening.Happening.TheVariants.{Grow, Power}
use Rattle.sg_target.specs.declared.refusal.Refusal.{Refusal}

-- A state within its limits stays within them after a command, and after a happening.
pub record LimitsAreKept : Type 0 where
  pub command : (state : State) (initiator : ℕ) (cdb data_out : List ℕ) → IsWithinLimits state
      → IsWithinLimits (step state initiator cdb data_out).state
  pub armed : (disk : Armed) (initiator : ℕ) (cdb data_out : List ℕ) → IsWithinLimits disk.state
      → IsWithinLimits (armed_step disk initiator cdb data_out).after.state
  pub happening : (happening : Happening) (state : State) → IsWithinLimits state
      → IsWithinLimits (after_happening happening state)

abbrev pub is_growth : Happening → Bool
is_growth (Grow capacity) = true
is_growth _ = false

abbrev pub is_power_cycle : Happening → Bool
is_power_cycle Power = true
is_power_cycle _ = false

-- The disk has at least as many blocks. Its pool, and its identity with its profile, are the same.
pub record HasGrown (before after : ConfigFields) : Type 0 where
  pub blocks : before.blocks ≤ after.blocks
  pub pool : after.pool ≡ before.pool
  pub identity : after.identity ≡ before.identity

-- No command, and no happening except a growth, changes the configuration of a disk: its number of
-- blocks, its pool, and its identity with its profile.
pub record ConfigurationStays : Type 0 where
  pub command : (state : State) (initiator : ℕ) (cdb data_out : List ℕ)
      → config_of (step state initiator cdb data_out).state ≡ config_of state
  pub happening : (happening : Happening) (state : State) → is_growth happening ≡ false
      → config_of (after_happening happening state) ≡ config_of state
  pub growth : (happening : Happening) (state : State)
      → HasGrown (config_of state) (config_of (after_happening happening state))

-- No happening changes a block or a saved mode page. Only a power cycle changes registrations and
-- reservation.
pub record HappeningsLeaveTheRest : Type 0 where
  pub blocks : (happening : Happening) (state : State)
      → (after_happening happening state).disk.contents ≡ state.disk.contents
  pub saved_pages : (happening : Happening) (state : State)
      → (after_happening happening state).modes.saved ≡ state.modes.saved
  pub reservations : (happening : Happening) (state : State) → is_power_cycle happening ≡ false
      → (after_happening happening state).reservations ≡ state.reservations

-- An operation that finds a refusal on its way changes nothing: the reply reports the refusal, and
-- the state stays, with each unit attention that is pending.
abbrev pub FoundRefusalsChangeNothing : Type 0
FoundRefusalsChangeNothing =
    (state : State) (initiator : ℕ) (cdb data_out : List ℕ) (effect : Effect) (refusal : Refusal)
    → checked_effect state initiator cdb data_out ≡ Ok effect → effect.found ≡ Some refusal
    → step state initiator cdb data_out
    ≡ record { answer = refusal_answer (sense_format state) refusal; state = state }

-- ---- Lists of extents

-- An address lies in some extent of a list.
abbrev pub lies_in_any : List Extent → (address : ℕ) → Bool
lies_in_any extents address =
    list_any (λ (extent : Extent). lies_in extent.lba extent.count address) extents

-- Two lists name the same addresses, perhaps in another order, or with other overlaps.
abbrev pub HaveTheSameAddresses : (extents others : List Extent) → Type 0
HaveTheSameAddresses extents others =
    (address : ℕ) → lies_in_any extents address ≡ lies_in_any others address

-- After a command on a list of extents, each address that lies in some extent has one status and is
-- read as zeros. Every other address is as it was. So neither the order of the extents nor their
-- overlaps matter.
pub record ZeroesEachExtent (command : State → List Extent → Effect)
    (status : ProvisioningStatus) : Type 0 where
  pub statuses : (state : State) (extents : List Extent) (address : ℕ)
      → status_at (command state extents).after.disk.contents address
      ≡ (if lies_in_any extents address then status else status_at state.disk.contents address)
  pub blocks : (state : State) (extents : List Extent) (address : ℕ)
      → block (command state extents).after.disk.contents address
      ≡ (if lies_in_any extents address then zero_block else block state.disk.contents address)
  pub any_order : (state : State) (extents others : List Extent)
      → HaveTheSameAddresses extents others
      → (command state extents).after ≡ (command state others).after

-- UNMAP without ANCHOR leaves each address of its extents neither mapped nor anchored,
abbrev pub UnmapsEachExtent : Type 0
UnmapsEachExtent = ZeroesEachExtent unmapping Deallocated

-- and a command that anchors extents leaves each of their addresses anchored.
abbrev pub AnchorsEachExtent : Type 0
AnchorsEachExtent = ZeroesEachExtent anchoring Anchored
