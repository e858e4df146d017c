-- Laws of armed faults.
use Rattle.std.specs.Option.{option_map_or}
use Rattle.std.specs.Prelude.{◌≡◌, ◌⊎◌, ℕ, Bool, true, false, List, [], ◌∷◌, ◌++◌, not, Some, None}
use Rattle.std.specs.Prelude.{Result, Ok, Err, if◌then◌else◌, is_none, slice_get}
use Rattle.std.specs.List.{list_all, list_any}
use Rattle.sg_wire.specs.CdbDecoding.{command_in, command_of}
use Rattle.sg_wire.specs.declared.command.CdbFault.{CdbFault}
use Rattle.sg_wire.specs.declared.command.Command.{Command}
use Rattle.sg_wire.specs.declared.command.Command.TheVariants as command
use Rattle.sg_wire.specs.declared.extent.Extent.{Extent}
use Rattle.sg_wire.specs.declared.profile.Profile.{Profile}
use Rattle.sg_faults.specs.Faults.{Faults, asked, decided, is_armed}
use Rattle.sg_faults.specs.Laws.{is_spared, meets_none}
use Rattle.sg_faults.specs.Meeting.{one_contains}
use Rattle.sg_faults.specs.Places.{on_arrival}
use Rattle.sg_faults.specs.declared.fault.ArmedFault.{ArmedFault}
use Rattle.sg_faults.specs.declared.fault.Fault.{Fault}
use Rattle.sg_faults.specs.declared.outcome.OnArrival.{OnArrival}
use Rattle.sg_faults.specs.declared.outcome.Struck.{Struck}
use Rattle.sg_target.specs.Armed.{Armed, ArmedStep, armed_step, attempt_of, first_blocks}
use Rattle.sg_target.specs.Armed.{refusal_on_arrival, seen, step_of_checked, whole_answer}
use Rattle.sg_target.specs.Checks.{checked_cdb}
use Rattle.sg_target.specs.CommandLaws.{blocks_written}
use Rattle.sg_target.specs.Runs.{after_events, answers_to, answers_to_events, armed_disk}
use Rattle.sg_target.specs.Runs.{state_after_events}
use Rattle.sg_target.specs.Semantics.{MediumUse, medium_use}
use Rattle.sg_target.specs.State.{State, config_of, profile_of}
use Rattle.sg_target.specs.Step.{refused, step}
use Rattle.sg_target.specs.declared.event.Event.{Event}
use Rattle.sg_target.specs.declared.event.Event.TheVariants as event
use Rattle.sg_target.specs.declared.happening.Happening.TheVariants.{Arm}
use Rattle.sg_target.specs.declared.operation.Operation.{Operation}
use Rattle.sg_target.specs.declared.operation.Operation.TheVariants.{Fill, PreFetch, ReturnLbaStatus}
use Rattle.sg_target.specs.declared.operation.Operation.TheVariants.{Synchronize, Write}
use Rattle.sg_target.specs.declared.refusal.Refusal.{Refusal}
use Rattle.sg_target.specs.declared.reply.Status.TheVariants.{Good}

-- ---- No fault is armed

-- WRITE LONG is the one command that arms a fault. The base profile does not have it.
abbrev pub is_write_long : Result Command CdbFault → Bool
is_write_long (Ok (command.WriteLong10 c)) = true
is_write_long _ = false

-- A disk on which no fault is armed is a disk without faults: it answers every other command as `step`
-- says, and becomes what `step` says.
abbrev pub WithoutFaultsNothingChanges : Type 0
WithoutFaultsNothingChanges =
    (disk : Armed) (initiator : ℕ) (cdb data_out : List ℕ) → is_armed disk.faults ≡ false
    → is_write_long (command_in (profile_of disk.state) cdb) ≡ false
    → armed_step disk initiator cdb data_out
    ≡ (let done = step disk.state initiator cdb data_out in
    record { answer = done.answer; unsent = []; after = record disk { state = done.state } })

abbrev pub is_arming : Profile → Event → Bool
is_arming profile (event.Call call) = is_write_long (command_in profile call.cdb.now)
is_arming profile (event.Happen (Arm fault)) = true
is_arming profile _ = false

-- So it is over every list of events that arms none.
pub record RunsAsWithoutFaults (disk : Armed) (events : List Event) : Type 0 where
  pub answers : answers_to armed_disk disk events ≡ answers_to_events disk.state events
  pub state : (after_events armed_disk disk events).state ≡ state_after_events disk.state events

abbrev pub WithoutFaultsARunIsSound : Type 0
WithoutFaultsARunIsSound =
    (disk : Armed) (events : List Event) → is_armed disk.faults ≡ false
    → list_all (λ e. not (is_arming (profile_of disk.state) e)) events ≡ true
    → RunsAsWithoutFaults disk events

-- ---- Commands that no fault changes

-- A command is answered as on a disk without faults, which leaves the same state.
pub record AsWithoutFaults (disk : Armed) (initiator : ℕ) (cdb data_out : List ℕ) : Type 0 where
  pub answer : (armed_step disk initiator cdb data_out).answer
      ≡ (step disk.state initiator cdb data_out).answer
  pub all_sent : (armed_step disk initiator cdb data_out).unsent ≡ []
  pub state : (armed_step disk initiator cdb data_out).after.state
      ≡ (step disk.state initiator cdb data_out).state

-- A fault changes only commands of initiators that it names: if nothing is left of any armed fault for
-- an initiator, none changes its command. But a WRITE LONG needs a number that no armed fault has.
abbrev pub OthersMeetNoFault : Type 0
OthersMeetNoFault =
    (disk : Armed) (initiator : ℕ) (cdb data_out : List ℕ) → is_spared disk.faults initiator ≡ true
    → is_write_long (command_in (profile_of disk.state) cdb) ≡ false
    → AsWithoutFaults disk initiator cdb data_out

-- A fault changes only commands that it meets: those with its operation code, and with one of its blocks.
abbrev pub OnlyMetCommandsChange : Type 0
OnlyMetCommandsChange =
    (disk : Armed) (initiator : ℕ) (cdb data_out : List ℕ)
    → meets_none (seen initiator cdb (checked_cdb disk.state initiator cdb data_out)) disk.faults ≡ true
    → is_write_long (command_in (profile_of disk.state) cdb) ≡ false
    → AsWithoutFaults disk initiator cdb data_out

-- ---- What faults can do

-- A WRITE, and a WRITE SAME that writes its block.
abbrev pub writes_data : Operation → Bool
writes_data (Write out) = true
writes_data (Fill extent block) = true
writes_data _ = false

-- Such a command passes the checks, and writes only its first blocks.
pub record WritesFirstBlocks (state : State) (initiator : ℕ) (cdb data_out : List ℕ) (after : State)
    : Type 0 where
  pub operation : Operation
  pub passed : checked_cdb state initiator cdb data_out ≡ Ok operation
  pub writes : writes_data operation ≡ true
  pub blocks : ℕ
  pub state_is : after ≡ (step_of_checked state initiator (Ok (first_blocks blocks operation))).state

-- Whatever faults are armed, a command leaves one of three states: the state before it, the state in
-- which a disk without faults leaves it, or the state after the first blocks of a WRITE or a WRITE SAME
-- that passes the checks. So no fault lets an initiator do what a check refuses.
abbrev pub FaultsOnlyDropOrShorten : Type 0
FaultsOnlyDropOrShorten =
    (disk : Armed) (initiator : ℕ) (cdb data_out : List ℕ)
    → let after = (armed_step disk initiator cdb data_out).after.state in
    (after ≡ disk.state) ⊎ ((after ≡ (step disk.state initiator cdb data_out).state)
    ⊎ WritesFirstBlocks disk.state initiator cdb data_out after)

-- The step is the step of a refused command. The checks have refused it, or a fault on arrival has.
pub record StaysRefused (state : State) (initiator : ℕ) (by_checks : Refusal) (given : ArmedStep)
    : Type 0 where
  pub refusal : Refusal
  pub whose : (refusal ≡ by_checks) ⊎ ((fault : OnArrival) × (refusal ≡ refusal_on_arrival fault))
  pub answer : given.answer ≡ (refused state initiator refusal).answer
  pub all_sent : given.unsent ≡ []
  pub after : given.after.state ≡ (refused state initiator refusal).state

-- Whatever faults are armed, a command that the checks refuse stays refused.
abbrev pub RefusedCommandsStayRefused : Type 0
RefusedCommandsStayRefused =
    (disk : Armed) (initiator : ℕ) (cdb data_out : List ℕ) (refusal : Refusal)
    → checked_cdb disk.state initiator cdb data_out ≡ Err refusal
    → StaysRefused disk.state initiator refusal (armed_step disk initiator cdb data_out)

-- A command passes the checks. Its operation is executed as on a disk without faults, all of it or on
-- only its first blocks. The answer is the operation's, but the last bytes of data-in may not arrive.
pub record IsExecutedInPart (state : State) (initiator : ℕ) (cdb data_out : List ℕ)
    (given : ArmedStep) : Type 0 where
  pub operation : Operation
  pub passed : checked_cdb state initiator cdb data_out ≡ Ok operation
  pub part : Operation
  pub part_is : (part ≡ operation) ⊎ ((blocks : ℕ) × (part ≡ first_blocks blocks operation))
  pub answer : whole_answer given ≡ (step_of_checked state initiator (Ok part)).answer
  pub after : given.after.state ≡ (step_of_checked state initiator (Ok part)).state

-- Whatever faults are armed, this holds for each command that ends with GOOD.
abbrev pub OnlyPassedCommandsEndWithGood : Type 0
OnlyPassedCommandsEndWithGood =
    (disk : Armed) (initiator : ℕ) (cdb data_out : List ℕ)
    → (armed_step disk initiator cdb data_out).answer.status ≡ Good
    → IsExecutedInPart disk.state initiator cdb data_out (armed_step disk initiator cdb data_out)

-- What a fault on arrival changes is the count alone, whatever it answers.
abbrev pub ArrivalChangesOnlyCounts : Type 0
ArrivalChangesOnlyCounts =
    (disk : Armed) (initiator : ℕ) (cdb data_out : List ℕ) (struck : Struck OnArrival)
    → let command = seen initiator cdb (checked_cdb disk.state initiator cdb data_out) in
    decided on_arrival command disk.faults ≡ Some struck
    → (armed_step disk initiator cdb data_out).after
    ≡ record disk { faults = asked on_arrival command disk.faults }

-- ---- The blocks that faults see

-- The blocks that an operation reads, and then those that it overwrites.
abbrev pub used_blocks : MediumUse → List Extent
used_blocks used = option_map_or (λ (extent : Extent). extent ∷ []) used.read [] ++ used.overwritten

-- PRE-FETCH, SYNCHRONIZE CACHE and GET LBA STATUS name blocks, and use none.
abbrev pub uses_none : Operation → Bool
uses_none (PreFetch extent) = true
uses_none (Synchronize extent) = true
uses_none (ReturnLbaStatus start n) = true
uses_none _ = false

-- Each other operation uses the blocks that the checks look at, and no more.
abbrev pub OperationsUseTheBlocksThatAreChecked : Type 0
OperationsUseTheBlocksThatAreChecked =
    (operation : Operation) → used_blocks (medium_use operation)
    ≡ (if uses_none operation then [] else (medium_use operation).extents)

-- ---- What heals a fault

-- COMPARE AND WRITE and ORWRITE read their blocks first.
abbrev pub reads_first : Result Command CdbFault → Bool
reads_first (Ok (command.CompareAndWrite c)) = true
reads_first (Ok (command.OrWrite16 c)) = true
reads_first _ = false

-- So each other command that writes blocks overwrites them, and no command overwrites other blocks.
abbrev pub CommandsOverwriteTheirBlocks : Type 0
CommandsOverwriteTheirBlocks =
    (state : State) (initiator : ℕ) (cdb data_out : List ℕ) (operation : Operation)
    → checked_cdb state initiator cdb data_out ≡ Ok operation
    → (medium_use operation).overwritten
    ≡ (if reads_first (command_of cdb) then []
    else blocks_written (config_of state) (command_of cdb) data_out)

-- A fault is armed under a number. It lies on blocks, and a write of all of them heals it. For some
-- initiator no number of times spends it.
pub record HealsByWrites (faults : Faults) (number : ℕ) (fault : Fault) (blocks : Extent) : Type 0 where
  pub armed : ArmedFault
  pub at_number : slice_get faults number ≡ Some (Some armed)
  pub fault_is : armed.fault ≡ fault
  pub blocks_are : fault.blocks ≡ Some (record { extent = blocks; healed_by_writes = true })
  pub unlimited : list_any (λ count. is_none count.times) armed.counts ≡ true

-- A command is executed as an operation: neither the checks nor a fault refuses it, and it does not lack
-- space. The operation has only the first blocks if a fault says so.
pub record IsExecutedAs (disk : Armed) (initiator : ℕ) (cdb data_out : List ℕ) (operation : Operation)
    : Type 0 where
  pub result : (attempt_of disk initiator cdb data_out).result ≡ Ok operation
  pub good : (step_of_checked disk.state initiator (Ok operation)).answer.status ≡ Good

-- The fault stays unless the command is executed as an operation that overwrites all of its blocks in one
-- extent. Then it is gone.
pub record HealsWhatItOverwrites (disk : Armed) (initiator : ℕ) (cdb data_out : List ℕ) (number : ℕ)
    (fault : Fault) (blocks : Extent) : Type 0 where
  pub stays : ((operation : Operation) → IsExecutedAs disk initiator cdb data_out operation
      → one_contains (medium_use operation).overwritten blocks ≡ false)
      → HealsByWrites (armed_step disk initiator cdb data_out).after.faults number fault blocks
  pub goes : (operation : Operation) → IsExecutedAs disk initiator cdb data_out operation
      → one_contains (medium_use operation).overwritten blocks ≡ true
      → slice_get (armed_step disk initiator cdb data_out).after.faults number ≡ Some None

-- A WRITE LONG may arm another fault under the number that it has freed.
abbrev pub OnlyOverwritingHeals : Type 0
OnlyOverwritingHeals =
    (disk : Armed) (initiator : ℕ) (cdb data_out : List ℕ) (number : ℕ) (fault : Fault) (blocks : Extent)
    → HealsByWrites disk.faults number fault blocks
    → is_write_long (command_in (profile_of disk.state) cdb) ≡ false
    → HealsWhatItOverwrites disk initiator cdb data_out number fault blocks
