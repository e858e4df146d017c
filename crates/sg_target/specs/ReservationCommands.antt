-- The effects of PERSISTENT RESERVE IN and PERSISTENT RESERVE OUT (SPC-4, 5.13).
use Rattle.std.specs.Prelude.{ℕ, ◌==◌, nat_le, List, length}
use Rattle.std.specs.Prelude.{Bool, true, false, not, ◌&&◌, ◌||◌, Option, Some, None}
use Rattle.std.specs.Prelude.{is_none, Result, Ok, Err, if◌then◌else◌}
use Rattle.sg_wire.specs.declared.command.in_action.InAction.{InAction}
use Rattle.sg_wire.specs.declared.command.in_action.InAction.TheVariants.{ReadKeys, ReadReservation}
use Rattle.sg_wire.specs.declared.command.in_action.InAction.TheVariants.{ReportCapabilities}
use Rattle.sg_wire.specs.declared.command.in_action.InAction.TheVariants.{ReadFullStatus}
use Rattle.sg_wire.specs.declared.command.out_action.OutAction.{OutAction}
use Rattle.sg_wire.specs.declared.command.out_action.OutAction.TheVariants.{Register, Reserve, Release}
use Rattle.sg_wire.specs.declared.command.out_action.OutAction.TheVariants.{RegisterAndMove}
use Rattle.sg_wire.specs.OutList.{has_transport_ids, has_whole_ids, has_whole_move, list_length, list_of}
use Rattle.sg_wire.specs.Profile.{rules_of}
use Rattle.sg_wire.specs.declared.profile.Rules.{Rules}
use Rattle.sg_units.specs.Raised.{raised_for_each}
use Rattle.sg_units.specs.ReservationType.{type_of}
use Rattle.sg_units.specs.FullStatus.{full_status_data}
use Rattle.sg_units.specs.ReserveIn.{capabilities_data, keys_data, reservation_data}
use Rattle.sg_units.specs.ReserveOut.{outcome, raised_by, state_after}
use Rattle.sg_units.specs.declared.out_fault.OutFault.{OutFault}
use Rattle.sg_units.specs.declared.out_fault.OutFault.TheVariants as out_fault
use Rattle.sg_wire.specs.declared.out_list.OutList.{OutList}
use Rattle.sg_units.specs.declared.reservation_change.ReservationChange.{ReservationChange}
use Rattle.sg_units.specs.declared.reservation_state.ReservationState.{ReservationState}
use Rattle.sg_target.specs.Effect.{Effect, no_effect, returning_up_to}
use Rattle.sg_target.specs.Refusal.{or_refused}
use Rattle.sg_target.specs.State.{State, profile_of}
use Rattle.sg_target.specs.declared.refusal.Reason.TheVariants.{InsufficientRegistrationResources}
use Rattle.sg_target.specs.declared.refusal.Reason.TheVariants.{InvalidFieldInCdb}
use Rattle.sg_target.specs.declared.refusal.Reason.TheVariants.{InvalidFieldInParameterList}
use Rattle.sg_target.specs.declared.refusal.Reason.TheVariants.{InvalidRelease}
use Rattle.sg_target.specs.declared.refusal.Reason.TheVariants.{ParameterListLengthError}
use Rattle.sg_target.specs.declared.refusal.Refusal.{Refusal}
use Rattle.sg_target.specs.declared.refusal.Refusal.TheVariants.{Conflict, CheckCondition}

-- ---- PERSISTENT RESERVE IN

-- The data that a service action returns, on a disk with these rules.
abbrev pub reserve_in_data : Rules → ReservationState → InAction → List ℕ
reserve_in_data rules reservations ReadKeys = keys_data reservations
reserve_in_data rules reservations ReadReservation = reservation_data reservations
reserve_in_data rules reservations ReportCapabilities = capabilities_data rules reservations
reserve_in_data rules reservations ReadFullStatus = full_status_data reservations

abbrev pub reporting : State → InAction → (allocation_length : ℕ) → Effect
reporting state action n =
    returning_up_to state n (reserve_in_data (rules_of (profile_of state)) state.reservations action)

-- ---- PERSISTENT RESERVE OUT

-- RESERVE needs a valid scope and type, in byte 2, and so does RELEASE on a base disk. PREEMPT needs one
-- if it takes the reservation. On an extended disk RELEASE compares them with those of the reservation.
abbrev pub always_needs_type : Rules → OutAction → Bool
always_needs_type rules Reserve = true
always_needs_type rules Release = not rules.release_of_nothing_ignores_type
always_needs_type rules _ = false

-- On a base disk each RELEASE needs a valid SCOPE and TYPE (SPC-4, 5.13, releasing).
-- Choice (SPC-4, 5.13, reserving): a conflict may come before a bad SCOPE or TYPE.
unfoldable pub bad_type : Rules → OutAction → (scope_type : ℕ) → Option ℕ
bad_type rules action scope_type =
    if always_needs_type rules action && is_none (type_of scope_type) then Some 2 else None

-- The status or the sense data of each fault.
abbrev pub out_refusal : OutFault → Refusal
out_refusal out_fault.Conflict = Conflict
out_refusal out_fault.NoRoom = CheckCondition InsufficientRegistrationResources
out_refusal out_fault.NoReservation = CheckCondition (InvalidFieldInCdb 1)
out_refusal out_fault.BadRelease = CheckCondition InvalidRelease
out_refusal (out_fault.Field byte) = CheckCondition (InvalidFieldInParameterList byte)
out_refusal out_fault.BadType = CheckCondition (InvalidFieldInCdb 2)

abbrev pub is_register : OutAction → Bool
is_register Register = true
is_register _ = false

-- Without SPEC_I_PT only the fields are there. A list with SPEC_I_PT has any length if SPEC_I_PT is an
-- error of the list. The list of REGISTER AND MOVE has as many bytes as it says.
-- Departure (SPC-4, 6.16.3): 26h/00h for SPEC_I_PT in a longer list, on a base disk.
-- Choice (SPC-4, 6.16.4): a list of REGISTER AND MOVE with more or fewer bytes may be 26h/00h.
abbrev pub has_list_length : Rules → OutAction → (list : List ℕ) → Bool
has_list_length rules RegisterAndMove list = has_whole_move list
has_list_length rules action list =
    nat_le list_length (length list)
    && (if rules.specifies_ports && has_transport_ids list
    then not (is_register action) || has_whole_ids list
    else length list == list_length)

-- A parameter list. A list of another length is an error.
abbrev pub fields_out : Rules → OutAction → (list : List ℕ) → Result OutList Refusal
fields_out rules action list =
    if has_list_length rules action list
    then Ok (list_of action list)
    else Err (CheckCondition ParameterListLengthError)

-- The change that they ask for, or the refusal.
unfoldable pub reservation_change : State → (initiator : ℕ) → OutAction → (scope_type : ℕ)
    → OutList → Result ReservationChange Refusal
reservation_change state initiator action scope_type list =
    or_refused out_refusal
    (outcome (rules_of (profile_of state)) state.reservations initiator action scope_type list)

-- Registrations and reservation change, and conditions are established for other initiators.
abbrev pub changing_reservations : State → (initiator : ℕ) → ReservationChange → Effect
changing_reservations state initiator change =
    let raised = raised_by state.reservations.registrations initiator change in
    record (no_effect state) {
      after =
          record state {
            reservations = state_after state.reservations (Ok change);
            attentions = raised_for_each state.attentions raised;
          };
    }
