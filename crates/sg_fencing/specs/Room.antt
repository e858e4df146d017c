-- An extended disk has room for a registration of each initiator. So it refuses none for want of room.
use Rattle.std.specs.Prelude.{◌≡◌, ◌≢◌, ◌<◌, ◌≤◌, ℕ, false, List, Err}
use Rattle.sg_wire.specs.Initiator.{initiator_count}
use Rattle.sg_wire.specs.OutList.{list_of}
use Rattle.sg_wire.specs.declared.command.out_action.OutAction.{OutAction}
use Rattle.sg_wire.specs.declared.profile.Profile.TheVariants.{Extended}
use Rattle.sg_units.specs.Registrations.{is_registered}
use Rattle.sg_target.specs.ReservationCommands.{reservation_change}
use Rattle.sg_target.specs.State.{IsWithinLimits, State, profile_of}
use Rattle.sg_target.specs.Step.{step}
use Rattle.sg_target.specs.declared.refusal.Reason.TheVariants.{InsufficientRegistrationResources}
use Rattle.sg_target.specs.declared.refusal.Refusal.TheVariants.{CheckCondition}

-- Each registrant is one of the initiators that a disk can have.
abbrev pub HasOnlyInitiators : State → Type 0
HasOnlyInitiators state =
    (n : ℕ) → initiator_count ≤ n → is_registered state.reservations.registrations n ≡ false

-- This stays so after each command of an initiator. A disk begins without a registrant.
abbrev pub RegistrantsAreInitiators : Type 0
RegistrantsAreInitiators =
    (state : State) (initiator : ℕ) (cdb data_out : List ℕ)
    → initiator < initiator_count → HasOnlyInitiators state
    → HasOnlyInitiators (step state initiator cdb data_out).state

-- So no PERSISTENT RESERVE OUT to an extended disk is refused with INSUFFICIENT REGISTRATION RESOURCES.
abbrev pub RegistrationsHaveRoom : Type 0
RegistrationsHaveRoom =
    (state : State) (initiator : ℕ) (action : OutAction) (scope_type : ℕ) (bytes : List ℕ)
    → IsWithinLimits state → HasOnlyInitiators state → profile_of state ≡ Extended
    → initiator < initiator_count
    → reservation_change state initiator action scope_type (list_of action bytes)
    ≢ Err (CheckCondition InsufficientRegistrationResources)
