-- The text of the verb `faults`: the armed faults in the words that arm them, and what is left of them
-- (docs/SCRIPT.md).
use Rattle.std.specs.Prelude.{ℕ, ◌/◌, ◌%◌, List, [], ◌∷◌, ◌++◌, length, codes, decimal, Bool}
use Rattle.std.specs.Prelude.{◌==◌, ◌&&◌, ◌||◌, not, if◌then◌else◌, Option, Some, None, is_some}
use Rattle.std.specs.Prelude.{slice_index, slice_index_or}
use Rattle.std.specs.List.{flat_map, list_all, range_with_len}
use Rattle.std.specs.Option.{option_eq}
use Rattle.hex.specs.Hex.{upper_digits}
use Rattle.sg_wire.specs.Profile.{limits_of}
use Rattle.sg_wire.specs.declared.profile.Profile.{Profile}
use Rattle.sg_wire.specs.declared.profile.Profile.TheVariants.{Base, Extended}
use Rattle.sg_units.specs.Initiators.{Members, is_member}
use Rattle.sg_faults.specs.Arming.{count_for, first_count}
use Rattle.sg_faults.specs.Faults.{Faults}
use Rattle.sg_faults.specs.SenseCode.{key_code}
use Rattle.sg_faults.specs.declared.sense_code.SenseCode.{SenseCode}
use Rattle.sg_faults.specs.declared.fault.ArmedFault.{ArmedFault}
use Rattle.sg_faults.specs.declared.fault.BadBlocks.{BadBlocks}
use Rattle.sg_faults.specs.declared.fault.Count.{Count}
use Rattle.sg_faults.specs.declared.fault.Fault.{Fault}
use Rattle.sg_faults.specs.declared.outcome.Afterwards.{Afterwards}
use Rattle.sg_faults.specs.declared.outcome.Afterwards.TheVariants as after
use Rattle.sg_faults.specs.declared.outcome.AtMedium.{AtMedium}
use Rattle.sg_faults.specs.declared.outcome.AtMedium.TheVariants as medium
use Rattle.sg_faults.specs.declared.outcome.OnArrival.{OnArrival}
use Rattle.sg_faults.specs.declared.outcome.OnArrival.TheVariants as arrival
use Rattle.sg_faults.specs.declared.outcome.Outcome.{Outcome}
use Rattle.sg_faults.specs.declared.outcome.Outcome.TheVariants as outcome
use Rattle.sg_run.specs.SenseCodeWord.{slash}

-- ---- What a fault does

-- A byte in two digits.
abbrev pub two_digits : (byte : ℕ) → List ℕ
two_digits byte = slice_index upper_digits (byte / 16) ∷ slice_index upper_digits (byte % 16) ∷ []

abbrev pub sense_code_text : SenseCode → List ℕ
sense_code_text code =
    slice_index upper_digits (key_code code.key) ∷ slash ∷ [] ++ two_digits code.asc
    ++ (slash ∷ [] ++ two_digits code.ascq)

abbrev pub arrival_text : OnArrival → List ℕ
arrival_text arrival.Busy = codes "arrival busy"
arrival_text arrival.TaskSetFull = codes "arrival full"
arrival_text arrival.ReservationConflict = codes "arrival conflict"
arrival_text arrival.NoReply = codes "arrival silent"
arrival_text (arrival.CheckCondition code) = codes "arrival " ++ sense_code_text code
arrival_text (arrival.DeferredError code) = codes "arrival deferred " ++ sense_code_text code

abbrev pub medium_text : AtMedium → List ℕ
medium_text (medium.CheckCondition code) = codes "medium " ++ sense_code_text code
medium_text (medium.MovesOnly blocks) = codes "medium first " ++ decimal blocks

abbrev pub afterwards_text : Afterwards → List ℕ
afterwards_text after.NoReply = codes "after silent"
afterwards_text (after.CheckCondition code) = codes "after " ++ sense_code_text code
afterwards_text (after.ShortDataIn bytes) = codes "after first " ++ decimal bytes

abbrev pub outcome_text : Outcome → List ℕ
outcome_text (outcome.OnArrival o) = arrival_text o
outcome_text (outcome.AtMedium o) = medium_text o
outcome_text (outcome.Afterwards o) = afterwards_text o

-- ---- Options

abbrev pub code_text : Option ℕ → List ℕ
code_text None = []
code_text (Some code) = codes " code " ++ (two_digits code ++ codes "h")

abbrev pub healed_text : Bool → List ℕ
healed_text healed = if healed then codes " healed" else []

abbrev pub blocks_text : Option BadBlocks → List ℕ
blocks_text None = []
blocks_text (Some bad) =
    codes " blocks " ++ (decimal bad.extent.lba ++ (codes " " ++ (decimal bad.extent.count
    ++ healed_text bad.healed_by_writes)))

abbrev pub skip_text : ℕ → List ℕ
skip_text skip = if skip == 0 then [] else codes " skip " ++ decimal skip

abbrev pub times_text : Option ℕ → List ℕ
times_text None = []
times_text (Some times) = codes " times " ++ decimal times

-- The numbers of the initiators of a disk.
abbrev pub initiators_in : Profile → List ℕ
initiators_in profile = range_with_len 0 (limits_of profile).initiators

-- No option names all initiators.
abbrev pub names_all : Profile → Members → Bool
names_all profile members = list_all (is_member members) (initiators_in profile)

abbrev pub to_text : Members → (initiator : ℕ) → List ℕ
to_text members initiator =
    if is_member members initiator then codes " to " ++ decimal initiator else []

unfoldable pub initiators_text : Profile → Members → List ℕ
initiators_text profile members =
    if names_all profile members then [] else flat_map (to_text members) (initiators_in profile)

unfoldable pub fault_text : Profile → Fault → List ℕ
fault_text profile fault =
    outcome_text fault.outcome ++ (code_text fault.code ++ (blocks_text fault.blocks
    ++ (skip_text fault.skip ++ (times_text fault.times ++ initiators_text profile fault.initiators))))

-- ---- What is left

-- Something is counted.
abbrev pub is_counted : Count → Bool
is_counted count = not (count.skip == 0) || is_some count.times

abbrev pub is_same : (count other : Count) → Bool
is_same count other = count.skip == other.skip && option_eq (λ m n. m == n) count.times other.times

-- A base disk lists each initiator that the fault names, if something is counted. An extended disk, which
-- has more of them, lists those for which something else is left than the fault began with.
abbrev pub is_listed : Profile → ArmedFault → (initiator : ℕ) → Bool
is_listed Base armed initiator =
    is_member armed.fault.initiators initiator && is_counted (count_for armed initiator)
is_listed Extended armed initiator =
    not (is_same (count_for armed initiator) (first_count armed.fault initiator))

-- If each later command meets the fault, that is written as `skip 0`.
abbrev pub skip_left_text : Count → List ℕ
skip_left_text count =
    if is_some count.times then skip_text count.skip else codes " skip " ++ decimal count.skip

abbrev pub count_text : (initiator : ℕ) → Count → List ℕ
count_text initiator count =
    (codes "    to " ++ decimal initiator) ++ (codes ":" ++ (skip_left_text count
    ++ (times_text count.times ++ codes "\n")))

abbrev pub left_text : Profile → ArmedFault → (initiator : ℕ) → List ℕ
left_text profile armed initiator =
    if is_listed profile armed initiator then count_text initiator (count_for armed initiator) else []

-- ---- The faults

unfoldable pub armed_text : Profile → (number : ℕ) → ArmedFault → List ℕ
armed_text profile number armed =
    codes "  " ++ (decimal number ++ (codes ": " ++ (fault_text profile armed.fault ++ (codes "\n"
    ++ flat_map (left_text profile armed) (initiators_in profile)))))

abbrev pub slot_text : Profile → (number : ℕ) → Option ArmedFault → List ℕ
slot_text profile number None = []
slot_text profile number (Some armed) = armed_text profile number armed

abbrev pub fault_at : Profile → Faults → (number : ℕ) → List ℕ
fault_at profile faults number = slot_text profile number (slice_index_or faults number None)

unfoldable pub faults_text : Profile → Faults → List ℕ
faults_text profile faults = flat_map (fault_at profile faults) (range_with_len 0 (length faults))
