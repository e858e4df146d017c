-- The checks that a command passes before it is executed, in their order. They know commands by
-- their demands, and operations by their use of the medium.
use Rattle.std.specs.Prelude.{Bool, ◌&&◌, ◌||◌, not}
use Rattle.std.specs.Prelude.{ℕ, List, [], ◌∷◌, length, map, Option, Some, None, Result}
use Rattle.std.specs.Prelude.{Ok, Err, nat_lt, if◌then◌else◌}
use Rattle.std.specs.Option.{option_map}
use Rattle.std.specs.Prelude.{option_and_then}
use Rattle.sg_wire.specs.CdbDecoding.{class_in, command_in, is_blocked_in}
use Rattle.sg_wire.specs.declared.command.Command.{Command}
use Rattle.sg_wire.specs.declared.command.CdbFault.{CdbFault}
use Rattle.sg_wire.specs.declared.command.CdbFault.TheVariants.{Empty, Opcode, Short, Field}
use Rattle.sg_wire.specs.Profile.{rules_of}
use Rattle.sg_wire.specs.declared.extent.Extent.{Extent}
use Rattle.sg_wire.specs.declared.profile.Rules.{Rules}
use Rattle.sg_pages.specs.ModePage.{ModeState, write_protected}
use Rattle.sg_units.specs.Access.{allows}
use Rattle.sg_units.specs.Attentions.{oldest}
use Rattle.sg_units.specs.UnitAttention.{outranks_conflict}
use Rattle.sg_units.specs.declared.unit_attention.UnitAttention.{UnitAttention}
use Rattle.sg_target.specs.BlockCommands.{past_capacity}
use Rattle.sg_target.specs.DataOut.{DataOutNeed}
use Rattle.sg_target.specs.Effect.{Effect}
use Rattle.sg_target.specs.Demands.{Demands, demands}
use Rattle.sg_target.specs.Refusal.{checked_next, first_some, refusal_for, unless_refused}
use Rattle.sg_target.specs.Semantics.{MediumUse, effect_of, medium_use, names_some_block}
use Rattle.sg_target.specs.State.{State, config_of, profile_of}
use Rattle.sg_target.specs.declared.operation.Operation.{Operation}
use Rattle.sg_target.specs.declared.refusal.Reason.TheVariants.{InvalidFieldInCdb}
use Rattle.sg_target.specs.declared.refusal.Reason.TheVariants.{UnitAttention as Attention}
use Rattle.sg_target.specs.declared.refusal.Reason.{Reason}
use Rattle.sg_target.specs.declared.refusal.Reason.TheVariants.{NotReady, SoftwareWriteProtected}
use Rattle.sg_target.specs.declared.refusal.Reason.TheVariants.{WriteProtected}
use Rattle.sg_target.specs.declared.refusal.Refusal.{Refusal}
use Rattle.sg_target.specs.declared.refusal.Refusal.TheVariants.{Conflict, CheckCondition}

-- ---- Checks of a CDB

-- It has no byte.
-- Choice (SAM-5, 5.2): a CDB of no byte has no answer there.
abbrev pub empty_cdb : Result Command CdbFault → Option Refusal
empty_cdb (Err Empty) = Some (refusal_for Empty)
empty_cdb _ = None

-- The unit attention that is pending for the initiator, if it is reported in place of the command.
abbrev pub blocking_attention : State → (initiator : ℕ) → List ℕ → Option UnitAttention
blocking_attention state initiator cdb =
    if is_blocked_in (profile_of state) cdb then oldest state.attentions initiator else None

abbrev pub attention_refusal : UnitAttention → Refusal
attention_refusal condition = CheckCondition (Attention condition)

abbrev pub pending_attention : State → (initiator : ℕ) → List ℕ → Option Refusal
pending_attention state initiator cdb =
    option_map attention_refusal (blocking_attention state initiator cdb)

-- It is reported even if the command conflicts with a reservation.
abbrev pub outranks : State → UnitAttention → Bool
outranks state condition =
    outranks_conflict (rules_of (profile_of state)).only_resets_outrank_conflicts condition

abbrev pub if_it_outranks : State → UnitAttention → Option Refusal
if_it_outranks state condition =
    if outranks state condition then Some (attention_refusal condition) else None

abbrev pub outranking_attention : State → (initiator : ℕ) → List ℕ → Option Refusal
outranking_attention state initiator cdb =
    option_and_then (if_it_outranks state) (blocking_attention state initiator cdb)

abbrev pub unknown_opcode : Result Command CdbFault → Option Refusal
unknown_opcode (Err Opcode) = Some (refusal_for Opcode)
unknown_opcode _ = None

-- The reservation that is held does not allow the command to the initiator, by its class. The class
-- follows from the operation code and the service action, and for START STOP UNIT from byte 4. So this
-- check comes before the checks of other fields.
abbrev pub reservation_conflict : State → (initiator : ℕ) → List ℕ → Option Refusal
reservation_conflict state initiator cdb =
    option_and_then
    (λ class. if allows state.reservations initiator class then None else Some Conflict)
    (class_in (profile_of state) cdb)

-- It ends early.
-- Choice (SAM-5, 5.2): a CDB that ends early has no answer there.
abbrev pub short_cdb : Result Command CdbFault → Option Refusal
short_cdb (Err (Short length)) = Some (refusal_for (Short length))
short_cdb _ = None

-- A bit is set that the command's layout does not allow, or CONTROL is not zero.
abbrev pub bad_field : Result Command CdbFault → Option Refusal
bad_field (Err (Field byte)) = Some (refusal_for (Field byte))
bad_field _ = None

-- The ranks of SAM-5, 5.3.3: attentions of a reset, a conflict, other attentions. On a base disk each
-- attention is of the first rank. No unknown operation code conflicts.
-- Choice (SAM-5, 5.3.3): a fault of the CDB may come before a conflict.
abbrev pub cdb_checks : State → (initiator : ℕ) → List ℕ → List (Option Refusal)
cdb_checks state initiator cdb = let command = command_in (profile_of state) cdb in
    empty_cdb command
    ∷ outranking_attention state initiator cdb
    ∷ reservation_conflict state initiator cdb
    ∷ pending_attention state initiator cdb
    ∷ unknown_opcode command
    ∷ short_cdb command
    ∷ bad_field command
    ∷ []

-- ---- Checks of a command

abbrev pub unsupported_value : Option ℕ → Option Refusal
unsupported_value unsupported =
    option_map (λ byte. CheckCondition (InvalidFieldInCdb byte)) unsupported

-- There is less data-out than the command needs, and that refuses it. More is ignored.
-- Choice (SAM-5, data-out): data-out of another length has no answer there.
-- Departure (SAM-5, 5.3.3): a conflict of PERSISTENT RESERVE OUT comes first there.
abbrev pub short_data_out : Option DataOutNeed → List ℕ → Option Refusal
short_data_out None data_out = None
short_data_out (Some need) data_out =
    if nat_lt (length data_out) need.bytes then need.if_short else None

-- The operation that a command asks for, or the first refusal. A value, too little data-out, or the
-- named page or parameter list can be the reason.
abbrev pub requested : Demands → (data_out : List ℕ) → Result Operation Refusal
requested d data_out =
    unless_refused
    (first_some (unsupported_value d.unsupported ∷ short_data_out d.data_out data_out ∷ []))
    d.operation

-- ---- Checks of an operation

-- The unit is stopped, and the operation needs one that is ready (SBC-3, 5.25).
-- Choice (SBC-3, 5.25): this check may come before or after others. READ CAPACITY may be refused by it, too.
abbrev pub not_ready : State → MediumUse → Option Refusal
not_ready state medium =
    if state.stopped && medium.needs_ready then Some (CheckCondition NotReady) else None

-- Choice (SBC-3, 5.28): the extents before the bad one may be unmapped.
unfoldable pub out_of_range : (capacity : ℕ) → List Extent → Option Refusal
out_of_range capacity extents = first_some (map (past_capacity capacity) extents)

-- A block is written. On a base disk a command that names no block counts, too.
abbrev pub writes_some : Rules → MediumUse → Bool
writes_some rules medium =
    medium.writes && (not rules.protects_only_writes || names_some_block medium.extents)

-- WRITE PROTECTED, or LOGICAL UNIT SOFTWARE WRITE PROTECTED on a base disk.
abbrev pub protection_reason : Rules → Reason
protection_reason rules =
    if rules.protects_only_writes then WriteProtected else SoftwareWriteProtected

-- SWP of the Control mode page is set (SPC-4, 7.5), and the command writes to the medium.
unfoldable pub write_protection : Rules → ModeState → MediumUse → Option Refusal
write_protection rules modes medium =
    if write_protected modes && writes_some rules medium
    then Some (CheckCondition (protection_reason rules))
    else None

abbrev pub medium_checks : State → MediumUse → List (Option Refusal)
medium_checks state medium =
    not_ready state medium
    ∷ out_of_range state.disk.capacity medium.extents
    ∷ write_protection (rules_of (profile_of state)) state.modes medium ∷ []

abbrev pub checked_operation : State → Operation → Result Operation Refusal
checked_operation state operation =
    unless_refused (first_some (medium_checks state (medium_use operation))) (Ok operation)

-- ---- All checks

-- The operation that a command asks for, or the first refusal.
-- Choice (SAM-5, 5.3.3): these checks may come in another order.
abbrev pub checked_command : State → Command → (data_out : List ℕ) → Result Operation Refusal
checked_command state command data_out =
    checked_next (requested (demands (config_of state) command data_out) data_out)
    (checked_operation state)

abbrev pub checked_parse : State → Result Command CdbFault → (data_out : List ℕ)
    → Result Operation Refusal
checked_parse state (Err fault) data_out = Err (refusal_for fault)
checked_parse state (Ok command) data_out = checked_command state command data_out

unfoldable pub checked_cdb : State → (initiator : ℕ) → (cdb data_out : List ℕ)
    → Result Operation Refusal
checked_cdb state initiator cdb data_out =
    unless_refused (first_some (cdb_checks state initiator cdb))
    (checked_parse state (command_in (profile_of state) cdb) data_out)

-- Its effect. The requests of MODE SENSE, MODE SELECT and PERSISTENT RESERVE OUT are checked last,
-- against the state. What an operation finds on its way comes after all checks.
-- Choice (SAM-5, 5.3.3): a conflict of PERSISTENT RESERVE OUT may come before a unit attention.
abbrev pub checked_effect : State → (initiator : ℕ) → (cdb data_out : List ℕ) → Result Effect Refusal
checked_effect state initiator cdb data_out =
    checked_next (checked_cdb state initiator cdb data_out) (effect_of state initiator)
