-- Fencing by registration: what an initiator that is not registered can do while a reservation is
-- held. Under the types registrants only and all registrants, all registrants may write. So a
-- cluster fences a node off under these types: another node removes its registration by PREEMPT.
use Rattle.std.specs.Prelude.{◌≡◌, ◌≢◌, ◌⊎◌, ◌==◌, ℕ, Bool, true, false, ◌&&◌, ◌||◌, not, List}
use Rattle.std.specs.Prelude.{Option, Some, None, Result, Ok, if◌then◌else◌, [], ◌∷◌, ◌+◌, ◌%◌, ◌^◌}
use Rattle.std.specs.Prelude.{is_some, slice_get, take}
use Rattle.std.specs.List.{list_any}
use Rattle.std.specs.Option.{option_map, option_map_or}
use Rattle.sg_wire.specs.FirstBytes.{first_bytes}
use Rattle.sg_wire.specs.CdbDecoding.{class_of, command_of}
use Rattle.sg_wire.specs.declared.command.CdbFault.{CdbFault}
use Rattle.sg_wire.specs.declared.command.Class.{Class}
use Rattle.sg_wire.specs.declared.command.Class.TheVariants.{Reads, Writes}
use Rattle.sg_wire.specs.declared.command.Command.{Command}
use Rattle.sg_wire.specs.declared.command.Command.TheVariants.{PersistentReserveOut}
use Rattle.sg_wire.specs.declared.command.out_action.OutAction.{OutAction}
use Rattle.sg_wire.specs.declared.command.out_action.OutAction.TheVariants.{Preempt, Register}
use Rattle.sg_wire.specs.declared.command.out_action.OutAction.TheVariants.{PreemptAndAbort}
use Rattle.sg_wire.specs.declared.command.out_action.OutAction.TheVariants.{RegisterAndIgnoreExistingKey}
use Rattle.sg_wire.specs.declared.command.out_action.OutAction.TheVariants.{RegisterAndMove}
use Rattle.sg_store.specs.Disk.{Contents}
use Rattle.sg_wire.specs.OutList.{list_of as out_list_of}
use Rattle.sg_wire.specs.Profile.{rules_of}
use Rattle.sg_wire.specs.declared.profile.Rules.{Rules}
use Rattle.sg_wire.specs.declared.out_list.OutList.{OutList}
use Rattle.sg_units.specs.Registrations.{is_registered, key_of}
use Rattle.sg_units.specs.Laws.{is_exclusive_access}
use Rattle.sg_units.specs.Attentions.{pending_for}
use Rattle.sg_units.specs.declared.reservation.Reservation.{Reservation}
use Rattle.sg_units.specs.declared.types.ReservationType.{ReservationType}
use Rattle.sg_target.specs.Alerts.{has_crossed}
use Rattle.sg_target.specs.ReservationCommands.{is_register}
use Rattle.sg_target.specs.Effect.{with_contents}
use Rattle.sg_target.specs.Runs.{all_calls, answers, state_after_all, state_after_events, step_of}
use Rattle.sg_target.specs.State.{IsWithinLimits, State, profile_of, resources_of}
use Rattle.sg_target.specs.Step.{Answer, step}
use Rattle.sg_target.specs.declared.call.Call.{Call}
use Rattle.sg_target.specs.declared.event.Event.{Event}
use Rattle.sg_target.specs.declared.event.Event.TheVariants as event
use Rattle.sg_target.specs.declared.reply.Status.TheVariants.{Good}
use Rattle.sg_fencing.specs.ChosenAnswers.{answers_where}
use Rattle.sg_fencing.specs.Fencing.{CountsAsMany, IsLeft, is_from, is_moving}

-- ---- Words

-- The rules of the disk's profile.
abbrev pub rules_for : State → Rules
rules_for state = rules_of (profile_of state)

-- A reservation is held, of whichever type.
abbrev pub is_reserved : State → Bool
is_reserved state = is_some state.reservations.reservation

-- An initiator is a registrant.
abbrev pub is_registrant : State → (initiator : ℕ) → Bool
is_registrant state initiator = is_registered state.reservations.registrations initiator

-- An initiator is fenced off: a reservation is held, and the initiator is not registered.
abbrev pub is_fenced_off : State → (initiator : ℕ) → Bool
is_fenced_off state initiator = is_reserved state && not (is_registrant state initiator)

-- The reservation that is held is of an exclusive access type.
abbrev pub excludes_reading : Option Reservation → Bool
excludes_reading held = option_map_or (λ (r : Reservation). is_exclusive_access r.kind) held false

-- REGISTER, REGISTER AND IGNORE EXISTING KEY and REGISTER AND MOVE.
abbrev pub is_registering : OutAction → Bool
is_registering Register = true
is_registering RegisterAndIgnoreExistingKey = true
is_registering RegisterAndMove = true
is_registering _ = false

-- The parameter list of a PERSISTENT RESERVE OUT with a service action of some kind (SPC-4, 6.16.3 and
-- 6.16.4).
abbrev pub list_of : (kind : OutAction → Bool) → Result Command CdbFault → (data_out : List ℕ)
    → Option OutList
list_of kind (Ok (PersistentReserveOut c)) data_out =
    if kind c.action then Some (out_list_of c.action (first_bytes c.list_length data_out)) else None
list_of kind _ data_out = None

-- The parameter list of such a command, and of a REGISTER AND MOVE.
abbrev pub registering_list : Result Command CdbFault → (data_out : List ℕ) → Option OutList
registering_list command data_out = list_of is_registering command data_out

abbrev pub moving_list : Result Command CdbFault → (data_out : List ℕ) → Option OutList
moving_list command data_out = list_of is_moving command data_out

-- The list of a REGISTER AND MOVE names another initiator. With SPEC_I_PT any list names others, too, if
-- the disk supports that.
abbrev pub is_named : (initiator : ℕ) → Option ℕ → Bool
is_named initiator named = option_map_or (λ other. other == initiator) named false

abbrev pub names : Rules → OutList → (initiator : ℕ) → Bool
names rules list initiator =
    (rules.specifies_ports || not list.spec_i_pt) && list_any (is_named initiator) list.others

-- Such a list asks to register its sender, and each initiator that it names, if its key is not zero. (The
-- sender of a REGISTER AND MOVE has to be registered already.) With the key zero it asks to unregister
-- its sender (SPC-4, 5.13, registering and unregistering).
abbrev pub asks_for : Rules → (sender initiator : ℕ) → OutList → Bool
asks_for rules sender initiator list =
    not (list.service_action_key == 0) && (sender == initiator || names rules list initiator)

-- A command of a sender asks to register an initiator.
abbrev pub asks_to_register : Rules → (sender initiator : ℕ) → Result Command CdbFault
    → (data_out : List ℕ) → Bool
asks_to_register rules sender initiator command data_out =
    option_map_or (asks_for rules sender initiator) (registering_list command data_out) false

-- The key of the registrations that a PREEMPT or a PREEMPT AND ABORT is to remove.
abbrev pub is_preempting : OutAction → Bool
is_preempting Preempt = true
is_preempting PreemptAndAbort = true
is_preempting _ = false

abbrev pub preempted_key : Result Command CdbFault → (data_out : List ℕ) → Option ℕ
preempted_key command data_out =
    option_map (λ (list : OutList). list.service_action_key)
    (list_of is_preempting command data_out)

-- ---- One command

-- No command that writes of an initiator that is fenced off ends with GOOD. Under exclusive access,
-- no command that reads, such as READ, does either.
pub record IsKeptOut (state : State) (initiator : ℕ) (cdb data_out : List ℕ) : Type 0 where
  pub writes : class_of cdb ≡ Some Writes
      → (step state initiator cdb data_out).answer.status ≢ Good
  pub reads : class_of cdb ≡ Some Reads
      → excludes_reading state.reservations.reservation ≡ true
      → (step state initiator cdb data_out).answer.status ≢ Good

abbrev pub FencedOffAreKeptOut : Type 0
FencedOffAreKeptOut =
    (state : State) (initiator : ℕ) (cdb data_out : List ℕ)
    → is_fenced_off state initiator ≡ true → IsKeptOut state initiator cdb data_out

-- A command asks to register another initiator than its sender, and that one is not registered.
abbrev pub registers_another : State → (sender initiator : ℕ) → (cdb data_out : List ℕ) → Bool
registers_another state sender initiator cdb data_out =
    not (is_registrant state initiator)
    && asks_to_register (rules_for state) sender initiator (command_of cdb) data_out

-- Its command leaves the view of every other initiator, registered or not, as it was. It may only start a
-- stopped unit, and on an extended disk it may register others together with itself.
abbrev pub FencedOffLeaveTheView : Type 0
FencedOffLeaveTheView =
    (state : State) (initiator other : ℕ) (cdb data_out : List ℕ) → IsWithinLimits state
    → other ≢ initiator → is_fenced_off state other ≡ true
    → registers_another state other initiator cdb data_out ≡ false
    → IsLeft state (step state other cdb data_out).state initiator

-- Under exclusive access the answer to it is the same whatever the blocks are, and whichever are
-- mapped. Only LOG SENSE of page 0Ch reports how many are used.
abbrev pub FencedOffSeeNoBlock : Type 0
FencedOffSeeNoBlock =
    (state : State) (contents : Contents) (initiator : ℕ) (cdb data_out : List ℕ)
    → is_fenced_off state initiator ≡ true
    → excludes_reading state.reservations.reservation ≡ true → CountsAsMany state contents cdb
    → (step (with_contents state contents) initiator cdb data_out).answer
    ≡ (step state initiator cdb data_out).answer

-- A command asks to register an initiator, and ends with GOOD. On a base disk it is the initiator's own.
pub record Registers (state : State) (initiator caller : ℕ) (cdb data_out : List ℕ) : Type 0 where
  pub asks : asks_to_register (rules_for state) caller initiator (command_of cdb) data_out ≡ true
  pub good : (step state caller cdb data_out).answer.status ≡ Good

-- An initiator that is not registered becomes registered only by such a command.
abbrev pub OnlyRegisteringRegisters : Type 0
OnlyRegisteringRegisters =
    (state : State) (initiator caller : ℕ) (cdb data_out : List ℕ)
    → is_registrant state initiator ≡ false
    → is_registrant (step state caller cdb data_out).state initiator ≡ true
    → Registers state initiator caller cdb data_out

-- An initiator and another that has sent the command are registered together, under one key. The sender
-- was not registered before. Only an extended disk does that.
pub record AreRegisteredTogether (before after : State) (initiator sender : ℕ) : Type 0 where
  pub supported : (rules_for before).specifies_ports ≡ true
  pub newcomer : is_registrant before sender ≡ false
  pub both : is_registrant after sender ≡ true
  pub one_key : key_of after.reservations.registrations initiator
      ≡ key_of after.reservations.registrations sender

-- A reservation of a type that an initiator holds alone.
abbrev pub held_by : ReservationType → (holder : ℕ) → Option Reservation
held_by type initiator = Some (record { kind = type; holder = Some initiator })

-- An initiator takes over the reservation that the sender of a command held. The type stays. Only an
-- extended disk does that.
pub record TakesOver (before after : State) (initiator sender : ℕ) : Type 0 where
  pub supported : (rules_for before).specifies_ports ≡ true
  pub registered : is_registrant before sender ≡ true
  pub type : ReservationType
  pub held : before.reservations.reservation ≡ held_by type sender
  pub taken : after.reservations.reservation ≡ held_by type initiator

-- One of the two holds if another initiator's command registers one. So a registrant registers nobody else
-- unless it gives its reservation away, and nobody else registers another without itself.
abbrev pub OthersAreRegisteredTogether : Type 0
OthersAreRegisteredTogether =
    (state : State) (initiator caller : ℕ) (cdb data_out : List ℕ) → caller ≢ initiator
    → is_registrant state initiator ≡ false
    → is_registrant (step state caller cdb data_out).state initiator ≡ true →
    (let after = (step state caller cdb data_out).state in
    AreRegisteredTogether state after initiator caller ⊎ TakesOver state after initiator caller)

-- A reservation is handed over to the initiator that a list names. That one is registered under the key of
-- the list. With UNREG the sender is not registered any more. PRGENERATION, which has 32 bits, is
-- incremented, and APTPL becomes the value in the list. No other key changes, no block and no mode page,
-- and no unit attention is established.
pub record IsHandedOver (before after : State) (sender : ℕ) (list : OutList) : Type 0 where
  pub target : ℕ
  pub named : list.others ≡ Some target ∷ []
  pub another : target ≢ sender
  pub taken_over : TakesOver before after target sender
  pub key : key_of after.reservations.registrations target ≡ Some list.service_action_key
  pub sender_key : key_of after.reservations.registrations sender
      ≡ (if list.unreg then None else key_of before.reservations.registrations sender)
  pub other_keys : (other : ℕ) → other ≢ target → other ≢ sender
      → key_of after.reservations.registrations other ≡ key_of before.reservations.registrations other
  pub generation : after.reservations.generation ≡ (before.reservations.generation + 1) % 2 ^ 32
  pub persists : after.reservations.persists_through_power_loss ≡ list.aptpl
  pub disk : after.disk ≡ before.disk
  pub modes : after.modes ≡ before.modes
  pub attentions : (other : ℕ)
      → pending_for after.attentions other ≡ pending_for before.attentions other

-- This holds after a REGISTER AND MOVE that ends with GOOD. So only the one holder hands a reservation
-- over, and one initiator or the other holds it at each moment.
abbrev pub HoldersHandOver : Type 0
HoldersHandOver =
    (state : State) (caller : ℕ) (cdb data_out : List ℕ) (list : OutList) → IsWithinLimits state
    → moving_list (command_of cdb) data_out ≡ Some list
    → (step state caller cdb data_out).answer.status ≡ Good
    → IsHandedOver state (step state caller cdb data_out).state caller list

-- After a PREEMPT or a PREEMPT AND ABORT that ends with GOOD, no other initiator is registered that
-- was registered under its key.
abbrev pub PreemptedAreUnregistered : Type 0
PreemptedAreUnregistered =
    (state : State) (initiator caller key : ℕ) (cdb data_out : List ℕ) → IsWithinLimits state
    → caller ≢ initiator → preempted_key (command_of cdb) data_out ≡ Some key
    → key_of state.reservations.registrations initiator ≡ Some key
    → (step state caller cdb data_out).answer.status ≡ Good
    → is_registrant (step state caller cdb data_out).state initiator ≡ false

-- A PREEMPT or a PREEMPT AND ABORT ends with GOOD while a reservation is held. If any initiator is
-- registered after it, a reservation is held after it too (SPC-4, 5.13, preempting). So an
-- initiator that has lost its registration is fenced off. If nobody is registered, nobody can hold
-- a reservation. So an all registrants reservation ends if a registrant preempts the key of all.
abbrev pub PreemptionKeepsAReservation : Type 0
PreemptionKeepsAReservation =
    (state : State) (caller registrant key : ℕ) (cdb data_out : List ℕ) → IsWithinLimits state
    → is_reserved state ≡ true → preempted_key (command_of cdb) data_out ≡ Some key
    → (step state caller cdb data_out).answer.status ≡ Good
    → is_registrant (step state caller cdb data_out).state registrant ≡ true
    → is_reserved (step state caller cdb data_out).state ≡ true

-- The sender of such a command stays registered, unless the key is its own. So if a reservation is
-- held, a PREEMPT of another key leaves a reservation held.
abbrev pub PreemptingSendersStayRegistered : Type 0
PreemptingSendersStayRegistered =
    (state : State) (caller key : ℕ) (cdb data_out : List ℕ) → IsWithinLimits state
    → preempted_key (command_of cdb) data_out ≡ Some key
    → key_of state.reservations.registrations caller ≢ Some key
    → (step state caller cdb data_out).answer.status ≡ Good
    → is_registrant (step state caller cdb data_out).state caller ≡ true

-- ---- Who stays unregistered

-- An initiator stays unregistered in a list: before each of its own commands it is not registered,
-- and after each it is not either. It may send REGISTER, which the disk refuses.
abbrev pub StaysUnregistered : (initiator : ℕ) → State → List Call → Type 0
StaysUnregistered initiator state calls =
    (n : ℕ) (call : Call) → slice_get calls n ≡ Some call → call.initiator ≡ initiator →
    (let before = state_after_all state (take n calls) in
    (is_registrant before initiator ≡ false)
    × (is_registrant (step_of before call).state initiator ≡ false))

-- The disk grants an initiator no registration: of the commands that ask to register it, none ends with
-- GOOD.
abbrev pub IsNeverGranted : (initiator : ℕ) → State → List Event → Type 0
IsNeverGranted initiator state events =
    (n : ℕ) (call : Call) → slice_get events n ≡ Some (event.Call call) →
    (let before = state_after_events state (take n events) in
    asks_to_register (rules_for before) call.initiator initiator (command_of call.cdb.now)
    call.data_out.now ≡ true
    → (step_of before call).answer.status ≢ Good)

-- Then an initiator that is not registered stays unregistered. It may send REGISTER with the key
-- that it had, which the disk refuses. It may also send the key zero, which ends with GOOD and
-- registers nobody.
abbrev pub TheRefusedStayUnregistered : Type 0
TheRefusedStayUnregistered =
    (state : State) (initiator : ℕ) (calls : List Call) → is_registrant state initiator ≡ false
    → IsNeverGranted initiator state (all_calls calls)
    → StaysUnregistered initiator state calls

-- An initiator that is not registered may send REGISTER with the key that it had, or with any other key
-- than zero. The disk refuses it (SPC-4, 5.13, registering).
abbrev pub OldKeysAreRefused : Type 0
OldKeysAreRefused =
    (state : State) (initiator : ℕ) (cdb data_out : List ℕ) (list : OutList)
    → is_registrant state initiator ≡ false
    → list_of is_register (command_of cdb) data_out ≡ Some list
    → list.reservation_key ≢ 0
    → (step state initiator cdb data_out).answer.status ≢ Good

-- ---- Lists of commands

-- A command of a class does not end with GOOD if the state before it meets a condition and its
-- initiator is unregistered there. This holds for each command of a list.
abbrev pub NoneIsServed : Class → (condition : State → Bool) → Type 0
NoneIsServed class condition =
    (state : State) (calls : List Call) (n : ℕ) (call : Call) (answer : Answer)
    → slice_get calls n ≡ Some call → slice_get (answers state calls) n ≡ Some answer
    → class_of call.cdb.now ≡ Some class
    → is_registrant (state_after_all state (take n calls)) call.initiator ≡ false
    → condition (state_after_all state (take n calls)) ≡ true
    → answer.status ≢ Good

-- So such an initiator writes nothing while a reservation is held.
abbrev pub FencedOffWriteNothing : Type 0
FencedOffWriteNothing = NoneIsServed Writes is_reserved

-- It reads nothing, by commands such as READ, while the reservation is of an exclusive access type.
abbrev pub FencedOffReadNothing : Type 0
FencedOffReadNothing =
    NoneIsServed Reads (λ (state : State). excludes_reading state.reservations.reservation)

-- Whenever an initiator sends a command the reservation is of an exclusive access type.
abbrev pub ExcludesReadingFrom : (initiator : ℕ) → State → List Call → Type 0
ExcludesReadingFrom initiator state calls =
    (n : ℕ) (call : Call) → slice_get calls n ≡ Some call → call.initiator ≡ initiator
    → excludes_reading (state_after_all state (take n calls)).reservations.reservation ≡ true

-- Whenever an initiator sends a LOG SENSE of page 0Ch, as many addresses are used in a run from one state
-- as in a run from another.
abbrev pub CountsAsManyOver : (initiator : ℕ) → (first second : State) → List Call → Type 0
CountsAsManyOver initiator first second calls =
    (n : ℕ) (call : Call) → slice_get calls n ≡ Some call → call.initiator ≡ initiator
    → CountsAsMany (state_after_all first (take n calls))
    (state_after_all second (take n calls)).disk.contents call.cdb.now

-- A command crosses a threshold of the pool.
abbrev pub crosses_by : State → Call → Bool
crosses_by before call = has_crossed (resources_of before) (step_of before call).state

-- Each command crosses a threshold in a run from one state exactly if it does in a run from another. On a
-- base disk, and while no threshold is enabled, none does.
abbrev pub CrossAlike : (first second : State) → List Call → Type 0
CrossAlike first second calls =
    (n : ℕ) (call : Call) → slice_get calls n ≡ Some call
    → crosses_by (state_after_all first (take n calls)) call
    ≡ crosses_by (state_after_all second (take n calls)) call

-- Then an initiator that stays unregistered sees no block, whatever the others write. The answers
-- to it are the same whatever the blocks were before the list, and whichever were mapped. Only LOG SENSE
-- of page 0Ch reports how many are used, and the unit attention of a threshold that so many are.
abbrev pub NoBlockIsSeenOverAList : Type 0
NoBlockIsSeenOverAList =
    (state : State) (contents : Contents) (initiator : ℕ) (calls : List Call)
    → StaysUnregistered initiator state calls → ExcludesReadingFrom initiator state calls
    → CountsAsManyOver initiator state (with_contents state contents) calls
    → CrossAlike state (with_contents state contents) calls
    → answers_where (is_from initiator) (with_contents state contents) calls
    ≡ answers_where (is_from initiator) state calls

-- A PREEMPT or a PREEMPT AND ABORT of another initiator has an initiator's key. Its answer is GOOD.
pub record IsPreempted (state : State) (initiator : ℕ) (preempt : Call) (answer : Answer)
    : Type 0 where
  pub key : ℕ
  pub sent : preempted_key (command_of preempt.cdb.now) preempt.data_out.now ≡ Some key
  pub registered : key_of state.reservations.registrations initiator ≡ Some key
  pub another : preempt.initiator ≢ initiator
  pub good : answer.status ≡ Good

-- An initiator writes nothing while a reservation is held. This lasts until the disk grants it a
-- registration.
abbrev pub WritesNothingUntilGranted : (initiator : ℕ) → State → List Call → Type 0
WritesNothingUntilGranted initiator state calls =
    (n : ℕ) (call : Call) (answer : Answer)
    → slice_get calls n ≡ Some call → slice_get (answers state calls) n ≡ Some answer
    → call.initiator ≡ initiator → class_of call.cdb.now ≡ Some Writes
    → IsNeverGranted initiator state (all_calls (take n calls))
    → is_reserved (state_after_all state (take n calls)) ≡ true
    → answer.status ≢ Good

-- This holds after a PREEMPT or a PREEMPT AND ABORT of the initiator's key.
abbrev pub PreemptedWriteNothing : Type 0
PreemptedWriteNothing =
    (state : State) (preempt : Call) (initiator : ℕ) (calls : List Call)
    → IsWithinLimits state → IsPreempted state initiator preempt (step_of state preempt).answer
    → WritesNothingUntilGranted initiator (step_of state preempt).state calls

-- A reservation is held, and each sender of a list of commands stays unregistered. Then the list
-- leaves the view of every other initiator as it was: the blocks, the mode pages, unit attentions,
-- key and reservation. Only a stopped unit may be started.
abbrev pub OutsidersChangeNothing : Type 0
OutsidersChangeNothing =
    (state : State) (initiator : ℕ) (calls : List Call) → IsWithinLimits state
    → is_reserved state ≡ true → ((sender : ℕ) → StaysUnregistered sender state calls)
    → list_any (is_from initiator) calls ≡ false
    → IsLeft state (state_after_all state calls) initiator
