-- PERSISTENT RESERVE OUT (SPC-4, 5.13).
use Rattle.std.specs.Prelude.{ℕ, ◌+◌, ◌%◌, ◌^◌, ◌==◌, nat_le, nat_lt, Bool, true, false, not, ◌&&◌, ◌||◌}
use Rattle.std.specs.Prelude.{if◌then◌else◌, List, [], ◌∷◌, length, map, Result, Ok, Err}
use Rattle.std.specs.Prelude.{Option, Some, None, is_some, is_none, unwrap_or}
use Rattle.std.specs.List.{fold, range_with_len}
use Rattle.std.specs.Option.{option_map, option_map_or}
use Rattle.sg_wire.specs.Initiator.{initiator_count}
use Rattle.sg_wire.specs.declared.profile.Rules.{Rules}
use Rattle.sg_units.specs.UnsupportedFlags.{has_unsupported_flag}
use Rattle.sg_wire.specs.OutList.{flags_at, moved_to_at, moved_to_length_at, port_at}
use Rattle.sg_wire.specs.OutList.{service_action_key_at, transport_ids_at}
use Rattle.sg_wire.specs.TargetPort.{relative_target_port}
use Rattle.sg_wire.specs.TransportId.{transport_id_length}
use Rattle.sg_units.specs.Raised.{Conditions}
use Rattle.sg_units.specs.Registrations.{has_key, is_registered, is_registered_under, max_registrations}
use Rattle.sg_units.specs.Registrations.{registration, room_for_registrations, with_registration}
use Rattle.sg_units.specs.Registrations.{with_replaced, without_initiator}
use Rattle.sg_units.specs.Registrations.{without_key, without_key_of_others, without_others}
use Rattle.sg_units.specs.Reservations.{AreConsistent, has_holder, has_type, is_holder, taken}
use Rattle.sg_units.specs.Reservations.{while_held}
use Rattle.sg_units.specs.ReservationType.{is_shared, type_of}
use Rattle.sg_units.specs.declared.reservation_change.ReservationChange.{ReservationChange}
use Rattle.sg_wire.specs.declared.command.out_action.OutAction.{OutAction}
use Rattle.sg_wire.specs.declared.command.out_action.OutAction.TheVariants.{Register, Reserve}
use Rattle.sg_wire.specs.declared.command.out_action.OutAction.TheVariants.{Release, Clear, Preempt}
use Rattle.sg_wire.specs.declared.command.out_action.OutAction.TheVariants.{PreemptAndAbort}
use Rattle.sg_wire.specs.declared.command.out_action.OutAction.TheVariants.{RegisterAndIgnoreExistingKey}
use Rattle.sg_wire.specs.declared.command.out_action.OutAction.TheVariants.{RegisterAndMove}
use Rattle.sg_units.specs.declared.out_fault.OutFault.{OutFault}
use Rattle.sg_units.specs.declared.out_fault.OutFault.TheVariants.{Conflict}
use Rattle.sg_units.specs.declared.out_fault.OutFault.TheVariants.{NoReservation, NoRoom}
use Rattle.sg_units.specs.declared.out_fault.OutFault.TheVariants.{BadRelease, Field}
use Rattle.sg_units.specs.declared.out_fault.OutFault.TheVariants.{BadType}
use Rattle.sg_wire.specs.declared.out_list.OutList.{OutList}
use Rattle.sg_units.specs.declared.registrations.Registration.{Registration}
use Rattle.sg_units.specs.declared.reservation.Reservation.{Reservation}
use Rattle.sg_units.specs.declared.reservation_state.ReservationState.{ReservationState}
use Rattle.sg_units.specs.declared.types.ReservationType.{ReservationType}
use Rattle.sg_units.specs.declared.unit_attention.UnitAttention.{UnitAttention}
use Rattle.sg_units.specs.declared.unit_attention.UnitAttention.TheVariants.{ReservationsPreempted}
use Rattle.sg_units.specs.declared.unit_attention.UnitAttention.TheVariants.{ReservationsReleased}
use Rattle.sg_units.specs.declared.unit_attention.UnitAttention.TheVariants.{RegistrationsPreempted}

-- ---- How a table is read

-- A command has its change, or is refused.
abbrev pub Outcome : Type 0
Outcome = Result ReservationChange OutFault

-- Nothing changes, and no condition is raised. A case names only what differs from this.
abbrev pub unchanged : ReservationState → ReservationChange
unchanged state = record {
  registrations = state.registrations;
  reservation = state.reservation;
  for_removed = None;
  for_remaining = None;
  increments_generation = false;
  aptpl = None;
}

-- If an initiator registers or unregisters, PRGENERATION is incremented. From then on, APTPL of its
-- parameter list says whether registrations and reservation persist through a power loss.
abbrev pub registering : ReservationState → List Registration → (aptpl : Bool) → ReservationChange
registering state registrations aptpl = record (unchanged state) {
  registrations = registrations;
  increments_generation = true;
  aptpl = Some aptpl;
}

-- A case of a service action. The first case that applies decides.
pub record Case : Type 0 where
  pub condition : Bool
  pub outcome : Outcome

abbrev when : Bool → Outcome → Case
when condition outcome = record { condition = condition; outcome = outcome }

abbrev otherwise : Outcome → Case
otherwise outcome = record { condition = true; outcome = outcome }

-- Each list of cases here ends with `otherwise`, so the conflict for no case never decides.
abbrev pub first_case : List Case → Outcome
first_case [] = Err Conflict
first_case (case ∷ cases) = if case.condition then case.outcome else first_case cases

-- A service action that needs a type is refused if the scope or the type is not valid.
abbrev pub with_type : Option ReservationType → (ReservationType → Outcome) → Outcome
with_type None outcome = Err BadType
with_type (Some type) outcome = outcome type

-- ---- What the end of a reservation raises for the other registrants

-- Registrants are notified if they had the access of a holder.
abbrev pub released : ReservationType → Option UnitAttention
released type = if is_shared type then Some ReservationsReleased else None

-- They are notified if no registrant holds the reservation any more.
abbrev pub released_unless_held : Option Reservation → List Registration → Option UnitAttention
released_unless_held None rest = None
released_unless_held (Some reservation) rest =
    if has_holder reservation rest then None else released reservation.kind

-- They are notified if another type takes the reservation's place.
abbrev pub released_unless_type : Option Reservation → ReservationType → Option UnitAttention
released_unless_type held type = if has_type held type then None else Some ReservationsReleased

-- ---- The service actions. SARK is the SERVICE ACTION RESERVATION KEY

-- The registration that a parameter list asks for.
abbrev pub registration_by : OutList → (initiator : ℕ) → Registration
registration_by list initiator = registration initiator list.service_action_key list.all_tg_pt

-- REGISTER and REGISTER AND IGNORE EXISTING KEY (SPC-4, 5.13, registering and unregistering). If
-- an initiator that is not registered sends key 0, then nothing changes, PRGENERATION and APTPL
-- included.
-- Choice (SPC-4, 6.16.3): a new key may leave ALL_TG_PT as it was.
unfoldable pub register_cases : Rules → ReservationState → (caller : ℕ) → OutList → List Case
register_cases rules state caller list =
    let all = state.registrations in
    let held = state.reservation in
    let known = is_registered all caller in
    let rest = without_initiator all caller in
    let own = registration_by list caller in
    let sark = list.service_action_key in
    when (not known && sark == 0) (Ok (unchanged state))
    ∷ when (not known && nat_le (room_for_registrations rules) (length all)) (Err NoRoom)
    ∷ when (not known) (Ok (registering state (with_registration all own) list.aptpl))
    ∷ when (not (sark == 0)) (Ok (registering state (with_replaced all own) list.aptpl))
    ∷ otherwise (Ok (record (registering state rest list.aptpl) {
      reservation = while_held held rest;
      for_remaining = released_unless_held held rest;
    }))
    ∷ []

-- Each initiator that a TransportID names is registered. If it is registered already, it is passed over.
-- Choice (SPC-4, 5.13, registering): that may be an error.
abbrev pub registered_too : OutList → List Registration → Option ℕ → List Registration
registered_too list registrations None = registrations
registered_too list registrations (Some initiator) =
    if is_registered registrations initiator then registrations
    else with_registration registrations (registration_by list initiator)

-- The caller is registered, and then the others in the order of the list.
unfoldable pub registered_together : List Registration → (caller : ℕ) → OutList → List Registration
registered_together all caller list = fold (registered_too list) all (Some caller ∷ list.others)

-- The first byte of the first TransportID that names no initiator of the disk. The first of them all
-- begins at byte `at`.
abbrev pub first_unknown : (at : ℕ) → (others : List (Option ℕ)) → Option ℕ
first_unknown at [] = None
first_unknown at (None ∷ others) = Some at
first_unknown at (Some initiator ∷ others) = first_unknown (at + transport_id_length) others

-- REGISTER with SPEC_I_PT, which registers other initiators together with its own (SPC-4, 5.13,
-- registering). All of them are registered, or none is. Key 0 of an initiator that is not registered
-- changes nothing, as without SPEC_I_PT. Only an extended disk has SPEC_I_PT.
unfoldable pub register_together_cases : ReservationState → (caller : ℕ) → OutList → List Case
register_together_cases state caller list =
    let all = state.registrations in
    let known = is_registered all caller in
    let unknown = first_unknown transport_ids_at list.others in
    let registrations = registered_together all caller list in
    when (not known && list.service_action_key == 0) (Ok (unchanged state))
    ∷ when known (Err (Field flags_at))
    ∷ when (is_some unknown) (Err (Field (unwrap_or unknown flags_at)))
    ∷ when (nat_lt max_registrations (length registrations)) (Err NoRoom)
    ∷ otherwise (Ok (registering state registrations list.aptpl))
    ∷ []

-- A reservation has one holder.
abbrev pub has_one_holder : Option Reservation → Bool
has_one_holder held = option_map_or (λ (r : Reservation). is_some r.holder) held false

-- The initiator that the one TransportID of a list names. None if the disk has no such initiator, or if
-- the list does not have one TransportID.
abbrev pub moved_to : (others : List (Option ℕ)) → Option ℕ
moved_to (named ∷ []) = named
moved_to others = None

-- With UNREG the caller is not registered any more. The initiator that the list names is registered
-- under its SARK, in whichever way it was registered before.
-- Choice (SPC-4, 5.13, registering and moving the reservation): a registrant may keep its key.
-- Choice (SPC-4, 5.13, registering and moving the reservation): its ALL_TG_PT may stay as it was.
abbrev pub with_moved : List Registration → (caller target : ℕ) → OutList → List Registration
with_moved all caller target list =
    let left = if list.unreg then without_initiator all caller else all in
    let new = registration_by list target in
    if is_registered left target then with_replaced left new else with_registration left new

-- From then on it holds the reservation, whose type stays.
abbrev pub moved : Option Reservation → (target : ℕ) → Option Reservation
moved held target = option_map (λ (r : Reservation). record r { holder = Some target }) held

-- REGISTER AND MOVE (SPC-4, 5.13, registering and moving the reservation): the one holder registers another
-- initiator, which holds the reservation from then on. SCOPE and TYPE do not matter. An initiator that
-- the disk does not have is refused as the caller itself is.
-- Choice (SPC-4, 5.13, registering and moving the reservation): the cases may have another order.
-- Choice (SPC-4, 6.16.4): a list without a TransportID may be refused for its length.
unfoldable pub move_cases : ReservationState → (caller : ℕ) → OutList → List Case
move_cases state caller list =
    let held = state.reservation in
    let target = unwrap_or (moved_to list.others) caller in
    let registrations = with_moved state.registrations caller target list in
    when (is_none held) (Err NoReservation)
    ∷ when (not (has_one_holder held && is_holder state caller)) (Err Conflict)
    ∷ when (list.service_action_key == 0) (Err (Field service_action_key_at))
    ∷ when (not (list.port == relative_target_port)) (Err (Field port_at))
    ∷ when (length list.others == 0) (Err (Field moved_to_length_at))
    ∷ when (target == caller) (Err (Field moved_to_at))
    ∷ when (nat_lt max_registrations (length registrations)) (Err NoRoom)
    ∷ otherwise (Ok (record (registering state registrations list.aptpl) {
      reservation = moved held target;
    }))
    ∷ []

-- RESERVE (SPC-4, 5.13, reserving).
unfoldable pub reserve_cases : ReservationState → (caller : ℕ) → ReservationType → List Case
reserve_cases state caller type =
    let held = state.reservation in
    when (is_none held) (Ok (record (unchanged state) { reservation = Some (taken type caller) }))
    ∷ when (is_holder state caller && has_type held type) (Ok (unchanged state))
    ∷ otherwise (Err Conflict)
    ∷ []

-- RELEASE of a valid type (SPC-4, 5.13, releasing).
unfoldable pub release_cases : ReservationState → (caller : ℕ) → ReservationType → List Case
release_cases state caller type =
    when (not (is_holder state caller)) (Ok (unchanged state))
    ∷ when (not (has_type state.reservation type)) (Err BadRelease)
    ∷ otherwise (Ok (record (unchanged state) {
      reservation = None;
      for_remaining = released type;
    }))
    ∷ []

-- RELEASE. If a registrant holds nothing, nothing changes, whatever SCOPE and TYPE are. No reservation has
-- a SCOPE and TYPE that are not valid (SPC-4, 5.13, releasing). A base disk refuses them by a check.
abbrev pub release_outcome : ReservationState → (caller : ℕ) → Option ReservationType → Outcome
release_outcome state caller None = if is_holder state caller then Err BadRelease else Ok (unchanged state)
release_outcome state caller (Some type) = first_case (release_cases state caller type)

-- CLEAR (SPC-4, 5.13, clearing).
abbrev pub cleared : Outcome
cleared = Ok (record {
  registrations = [];
  reservation = None;
  for_removed = Some ReservationsPreempted;
  for_remaining = None;
  increments_generation = true;
  aptpl = None;
})

-- If the scope and type are valid, the caller takes the reservation, and these registrations
-- remain.
abbrev pub preempted : Option Reservation → (caller : ℕ) → Option ReservationType
    → List Registration → Outcome
preempted held caller None rest = Err BadType
preempted held caller (Some type) rest = Ok (record {
  registrations = rest;
  reservation = Some (taken type caller);
  for_removed = Some RegistrationsPreempted;
  for_remaining = released_unless_type held type;
  increments_generation = true;
  aptpl = None;
})

-- Only registrations are removed: a reservation that a registrant still holds is left.
abbrev pub registrations_preempted : Option Reservation → (rest : List Registration) → Outcome
registrations_preempted held rest = Ok (record {
  registrations = rest;
  reservation = while_held held rest;
  for_removed = Some RegistrationsPreempted;
  for_remaining = None;
  increments_generation = true;
  aptpl = None;
})

-- Each registrant holds a reservation; a key is the key of its one holder.
abbrev pub is_held_by_all : Option Reservation → Bool
is_held_by_all held = option_map_or (λ (r : Reservation). is_none r.holder) held false

abbrev pub is_key_of_holder : ReservationState → (key : ℕ) → Bool
is_key_of_holder state key =
    option_map_or
    (λ (r : Reservation).
    option_map_or (λ holder. is_registered_under state.registrations holder key) r.holder false)
    state.reservation false

-- PREEMPT and PREEMPT AND ABORT (SPC-4, 5.13, preempting). A SARK of 0 is an error of the list,
-- unless an all registrants reservation is held.
-- If none is held, a SARK of 0 is a conflict on a base disk (SPC-4, 5.13, preempting).
unfoldable pub preempt_cases : Rules → ReservationState → (caller : ℕ) → Option ReservationType
    → (sark : ℕ) → List Case
preempt_cases rules state caller type sark =
    let all = state.registrations in
    let held = state.reservation in
    let rest = without_key all sark in
    let take : List Registration → Outcome = preempted held caller type in
    let no_key = Err (Field service_action_key_at) in
    when (has_one_holder held && sark == 0) no_key
    ∷ when (rules.preempt_needs_a_key && is_none held && sark == 0) no_key
    ∷ when (is_key_of_holder state sark) (take (without_key_of_others all caller sark))
    ∷ when (is_held_by_all held && sark == 0) (take (without_others all caller))
    ∷ when (not (has_key all sark)) (Err Conflict)
    ∷ otherwise (registrations_preempted held rest)
    ∷ []

-- ---- The command

abbrev pub action_outcome : Rules → ReservationState → (caller : ℕ) → OutAction
    → Option ReservationType → OutList → Outcome
action_outcome rules state i Register type list =
    if list.spec_i_pt then first_case (register_together_cases state i list)
    else first_case (register_cases rules state i list)
action_outcome rules state i Reserve type list =
    with_type type (λ type. first_case (reserve_cases state i type))
action_outcome rules state i Release type list = release_outcome state i type
action_outcome rules state i Clear type list = cleared
action_outcome rules state i Preempt type list =
    first_case (preempt_cases rules state i type list.service_action_key)
action_outcome rules state i PreemptAndAbort type list =
    first_case (preempt_cases rules state i type list.service_action_key)
action_outcome rules state i RegisterAndIgnoreExistingKey type list =
    first_case (register_cases rules state i list)
action_outcome rules state i RegisterAndMove type list = first_case (move_cases state i list)

-- The RESERVATION KEY has to be the caller's. To register for the first time it has to be 0, and
-- REGISTER AND IGNORE EXISTING KEY ignores it.
abbrev pub accepts_key : List Registration → (caller : ℕ) → OutAction → (key : ℕ) → Bool
accepts_key all caller RegisterAndIgnoreExistingKey key = true
accepts_key all caller Register key =
    is_registered_under all caller key || (not (is_registered all caller) && key == 0)
accepts_key all caller action key = is_registered_under all caller key

-- Choice (SAM-5, 5.3.3): a conflict may come before a fault of the list.
unfoldable pub outcome : Rules → ReservationState → (caller : ℕ) → OutAction → (scope_type : ℕ)
    → OutList → Outcome
outcome rules state caller action scope_type list =
    let accepts = accepts_key state.registrations caller action list.reservation_key in
    let type = type_of scope_type in
    first_case (
    when (has_unsupported_flag rules action list) (Err (Field flags_at))
    ∷ when (not accepts) (Err Conflict)
    ∷ otherwise (action_outcome rules state caller action type list)
    ∷ [])

-- ---- What it leaves

-- The registrations and the reservation of a change are consistent.
abbrev pub IsConsistentChange : ReservationChange → Type 0
IsConsistentChange change = AreConsistent change.registrations change.reservation

-- The condition that is raised for an initiator. The caller gets none, and an initiator that was
-- not registered gets none.
abbrev pub raised_for : List Registration → (caller : ℕ) → ReservationChange → (initiator : ℕ)
    → Option UnitAttention
raised_for before caller change initiator =
    if initiator == caller || not (is_registered before initiator) then None
    else (if is_registered change.registrations initiator then change.for_remaining
    else change.for_removed)

unfoldable pub raised_by : List Registration → (caller : ℕ) → ReservationChange → Conditions
raised_by before caller change =
    map (raised_for before caller change) (range_with_len 0 initiator_count)

abbrev pub reply_of : ReservationState → (caller : ℕ) → Outcome → Result Conditions OutFault
reply_of state caller (Ok change) = Ok (raised_by state.registrations caller change)
reply_of state caller (Err fault) = Err fault

-- PRGENERATION has 32 bits, and 0 comes after FFFFFFFFh.
abbrev pub generation_after : (increments : Bool) → (generation : ℕ) → ℕ
generation_after increments generation =
    if increments then (generation + 1) % 2 ^ 32 else generation

-- Only a command that registers or unregisters decides on what a power loss leaves. A command that
-- is refused changes nothing.
abbrev pub state_after : ReservationState → Outcome → ReservationState
state_after state (Ok change) = record {
  registrations = change.registrations;
  reservation = change.reservation;
  generation = generation_after change.increments_generation state.generation;
  persists_through_power_loss = unwrap_or change.aptpl state.persists_through_power_loss;
}
state_after state (Err fault) = state
