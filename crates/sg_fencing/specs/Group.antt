-- The group of a disk. Its registrants see a view together, and nothing more. A new registration
-- changes that view in one place. The commands of initiators outside may be left out.
use Rattle.std.specs.Prelude.{◌≡◌, ◌≢◌, ℕ, ◌+◌, ◌%◌, ◌^◌, Bool, true, false, not, ◌&&◌, List, filter}
use Rattle.std.specs.Prelude.{if◌then◌else◌}
use Rattle.std.specs.Prelude.{slice_get, take, Option, Some}
use Rattle.std.specs.List.{list_any}
use Rattle.sg_wire.specs.CdbDecoding.{command_of}
use Rattle.sg_wire.specs.declared.out_list.OutList.{OutList}
use Rattle.sg_store.specs.Disk.{Disk}
use Rattle.sg_pages.specs.ModePage.{ModeState}
use Rattle.sg_units.specs.Attentions.{pending_for}
use Rattle.sg_units.specs.Registrations.{with_registration}
use Rattle.sg_units.specs.ReserveOut.{registered_together, registration_by}
use Rattle.sg_units.specs.declared.registrations.Registration.{Registration}
use Rattle.sg_units.specs.declared.reservation.Reservation.{Reservation}
use Rattle.sg_target.specs.Runs.{answers, state_after_all, step_of}
use Rattle.sg_target.specs.State.{IsWithinLimits, State}
use Rattle.sg_target.specs.Step.{Answer, Step, step}
use Rattle.sg_target.specs.declared.call.Call.{Call}
use Rattle.sg_fencing.specs.ChosenAnswers.{answers_where}
use Rattle.sg_fencing.specs.Fencing.{is_from, view_of}
use Rattle.sg_fencing.specs.Registrants.{StaysUnregistered, asks_for, is_registrant, is_reserved}
use Rattle.sg_fencing.specs.Registrants.{registering_list, rules_for}

-- ---- What a group sees

-- The registrants of a disk see these together (SPC-4, 6.15):
-- - the blocks and the mode pages, and whether the unit is stopped.
-- - by READ KEYS and READ FULL STATUS, who is registered under which key, in the order of
--   registration, and PRGENERATION.
-- - by READ RESERVATION, the reservation.
-- - by REPORT CAPABILITIES, whether these persist through a power loss.
-- Unit attentions are not among them: each initiator has its own.
pub record GroupView : Type 0 where
  pub disk : Disk
  pub modes : ModeState
  pub stopped : Bool
  pub registrations : List Registration
  pub generation : ℕ
  pub reservation : Option Reservation
  pub persists : Bool

abbrev pub group_view : State → GroupView
group_view state = record {
  disk = state.disk;
  modes = state.modes;
  stopped = state.stopped;
  registrations = state.reservations.registrations;
  generation = state.reservations.generation;
  reservation = state.reservations.reservation;
  persists = state.reservations.persists_through_power_loss;
}

-- A command of an initiator ends alike in two states: with equal answers, and the group sees the
-- same afterwards. Each initiator that had equal unit attentions in both has equal ones again.
pub record EndAlikeForGroup (before before' : State) (done done' : Step) : Type 0 where
  pub answer : done.answer ≡ done'.answer
  pub group : group_view done.state ≡ group_view done'.state
  pub identity : done.state.identity ≡ done'.state.identity
  pub attentions : (other : ℕ)
      → pending_for before.attentions other ≡ pending_for before'.attentions other
      → pending_for done.state.attentions other ≡ pending_for done'.state.attentions other

-- This holds if the group sees the same in both states of one disk, and the same unit attentions
-- are pending for the initiator. So no answer shows more than that, and no command depends on more,
-- not even PERSISTENT RESERVE IN and PERSISTENT RESERVE OUT.
abbrev pub EqualGroupViewsEndAlike : Type 0
EqualGroupViewsEndAlike =
    (first second : State) (initiator : ℕ) (cdb data_out : List ℕ)
    → first.identity ≡ second.identity → group_view first ≡ group_view second
    → pending_for first.attentions initiator ≡ pending_for second.attentions initiator
    → EndAlikeForGroup first second (step first initiator cdb data_out)
    (step second initiator cdb data_out)

-- Over a list of commands of some initiators the answers are equal, and the group sees the same in
-- the end.
pub record RunAlikeForGroup (first second : State) (calls : List Call) : Type 0 where
  pub answers : answers first calls ≡ answers second calls
  pub group : group_view (state_after_all first calls) ≡ group_view (state_after_all second calls)

-- This holds if at first the group sees the same, and the same unit attentions are pending for each
-- of these initiators.
abbrev pub EqualGroupViewsRunAlike : Type 0
EqualGroupViewsRunAlike =
    (first second : State) (calls : List Call)
    → first.identity ≡ second.identity → group_view first ≡ group_view second
    → ((initiator : ℕ) → list_any (is_from initiator) calls ≡ true
    → pending_for first.attentions initiator ≡ pending_for second.attentions initiator)
    → RunAlikeForGroup first second calls

-- ---- A new registration

-- There is one registration more, at the end. With SPEC_I_PT the initiators that are named and were not
-- registered follow it. PRGENERATION, which has 32 bits, is incremented. APTPL becomes the value in the
-- parameter list (SPC-4, 5.13, registering).
abbrev pub registered_anew : List Registration → (initiator : ℕ) → OutList → List Registration
registered_anew registrations initiator list =
    if list.spec_i_pt then registered_together registrations initiator list
    else with_registration registrations (registration_by list initiator)

abbrev pub with_newcomer : GroupView → (initiator : ℕ) → OutList → GroupView
with_newcomer view initiator list = record view {
  registrations = registered_anew view.registrations initiator list;
  generation = (view.generation + 1) % 2 ^ 32;
  persists = list.aptpl;
}

-- The group sees no other change, and no initiator that is not registered with it sees one in its own
-- view: no unit attention is established for it.
pub record IsSeen (before after : State) (initiator : ℕ) (list : OutList) : Type 0 where
  pub group : group_view after ≡ with_newcomer (group_view before) initiator list
  pub others : (other : ℕ) → initiator ≢ other
      → (not (is_registrant before other) && asks_for (rules_for before) initiator other list) ≡ false
      → view_of after other ≡ view_of before other

-- This holds if an initiator that was not registered is registered after a command of its own.
abbrev pub NewcomersAreSeen : Type 0
NewcomersAreSeen =
    (state : State) (initiator : ℕ) (cdb data_out : List ℕ) (list : OutList) → IsWithinLimits state
    → is_registrant state initiator ≡ false
    → registering_list (command_of cdb) data_out ≡ Some list
    → is_registrant (step state initiator cdb data_out).state initiator ≡ true
    → IsSeen state (step state initiator cdb data_out).state initiator list

-- ---- Those outside, among others

-- The calls of all others, in order, and the answers to them.
abbrev pub is_from_inside : (outside : ℕ → Bool) → Call → Bool
is_from_inside outside call = not (outside call.initiator)

abbrev pub calls_inside : (outside : ℕ → Bool) → List Call → List Call
calls_inside outside calls = filter (is_from_inside outside) calls

abbrev pub answers_inside : (outside : ℕ → Bool) → State → List Call → List Answer
answers_inside outside state calls = answers_where (is_from_inside outside) state calls

-- The calls from outside may be left out. Without them the answers to all others are the same, even
-- to PERSISTENT RESERVE IN and PERSISTENT RESERVE OUT. In the end the group sees the same, and each
-- of the others has the same view.
pub record IsAsIfInsideAlone (outside : ℕ → Bool) (state : State) (calls : List Call) : Type 0 where
  pub answers : answers_inside outside state calls ≡ answers state (calls_inside outside calls)
  pub group : group_view (state_after_all state calls)
      ≡ group_view (state_after_all state (calls_inside outside calls))
  pub views : (initiator : ℕ) → outside initiator ≡ false
      → view_of (state_after_all state calls) initiator
      ≡ view_of (state_after_all state (calls_inside outside calls)) initiator

-- A reservation is held whenever an initiator outside sends a command.
abbrev pub IsReservedFrom : (outside : ℕ → Bool) → State → List Call → Type 0
IsReservedFrom outside state calls =
    (n : ℕ) (call : Call) → slice_get calls n ≡ Some call → outside call.initiator ≡ true
    → is_reserved (state_after_all state (take n calls)) ≡ true

-- No call from outside starts a stopped unit. On a base disk the unit is never stopped.
abbrev pub NoneStarts : (outside : ℕ → Bool) → State → List Call → Type 0
NoneStarts outside state calls =
    (n : ℕ) (call : Call) → slice_get calls n ≡ Some call → outside call.initiator ≡ true →
    (let before = state_after_all state (take n calls) in
    before.stopped ≡ true → (step_of before call).state.stopped ≡ true)

-- This holds over each list of commands, of registrants and others in any order, for any initiators
-- that stay unregistered.
abbrev pub OutsidersMayBeLeftOut : Type 0
OutsidersMayBeLeftOut =
    (outside : ℕ → Bool) (state : State) (calls : List Call) → IsWithinLimits state
    → ((initiator : ℕ) → outside initiator ≡ true → StaysUnregistered initiator state calls)
    → IsReservedFrom outside state calls → NoneStarts outside state calls
    → IsAsIfInsideAlone outside state calls
