-- The verbs for what happens to a disk, except `fault` and `heal` (docs/SCRIPT.md). All of them but
-- `power`, which names no initiator, are verbs of an extended disk.
use Rattle.std.specs.Prelude.{ℕ, List, [], ◌∷◌, codes, Option, Some, None, if◌then◌else◌}
use Rattle.std.specs.Prelude.{option_and_then}
use Rattle.std.specs.Option.{option_map}
use Rattle.std.specs.Str.{bytes_eq}
use Rattle.sg_store.specs.Disk.{max_capacity}
use Rattle.sg_wire.specs.declared.profile.Profile.TheVariants.{Extended}
use Rattle.sg_tools.specs.Number.{number_of}
use Rattle.sg_units.specs.Initiators.{Members, all_initiators, no_initiators, with_member}
use Rattle.sg_units.specs.declared.unit_attention.UnitAttention.{UnitAttention}
use Rattle.sg_units.specs.declared.unit_attention.UnitAttention.TheVariants.{MediumMayHaveChanged}
use Rattle.sg_units.specs.declared.unit_attention.UnitAttention.TheVariants.{PowerOn, ScsiBusReset}
use Rattle.sg_units.specs.declared.unit_attention.UnitAttention.TheVariants.{BusDeviceReset}
use Rattle.sg_units.specs.declared.unit_attention.UnitAttention.TheVariants.{DeviceInternalReset}
use Rattle.sg_units.specs.declared.unit_attention.UnitAttention.TheVariants.{NexusLoss}
use Rattle.sg_units.specs.declared.unit_attention.UnitAttention.TheVariants.{ModeParametersChanged}
use Rattle.sg_units.specs.declared.unit_attention.UnitAttention.TheVariants.{ReservationsPreempted}
use Rattle.sg_units.specs.declared.unit_attention.UnitAttention.TheVariants.{ReservationsReleased}
use Rattle.sg_units.specs.declared.unit_attention.UnitAttention.TheVariants.{RegistrationsPreempted}
use Rattle.sg_units.specs.declared.unit_attention.UnitAttention.TheVariants.{AsymmetricAccessStateChanged}
use Rattle.sg_units.specs.declared.unit_attention.UnitAttention.TheVariants.{CapacityDataChanged}
use Rattle.sg_units.specs.declared.unit_attention.UnitAttention.TheVariants.{SoftThresholdReached}
use Rattle.sg_units.specs.declared.unit_attention.UnitAttention.TheVariants.{MicrocodeChanged}
use Rattle.sg_units.specs.declared.unit_attention.UnitAttention.TheVariants.{InquiryDataChanged}
use Rattle.sg_units.specs.declared.unit_attention.UnitAttention.TheVariants.{ReportedLunsDataChanged}
use Rattle.sg_target.specs.Config.{is_between}
use Rattle.sg_target.specs.declared.happening.Happening.{Happening}
use Rattle.sg_target.specs.declared.happening.Happening.TheVariants.{Establish, Grow, NexusLoss}
use Rattle.sg_target.specs.declared.happening.Happening.TheVariants.{LogicalUnitReset, Power}
use Rattle.sg_target.specs.declared.happening.Happening.TheVariants.{TargetReset}
use Rattle.sg_run.specs.InitiatorWord.{initiator_of}

-- The verb `power`, which takes no operand.
abbrev pub power_of : List (List ℕ) → Option Happening
power_of [] = Some Power
power_of operands = None

-- The verb `reset`: of the logical unit, or of the target.
abbrev pub reset_of : List (List ℕ) → Option Happening
reset_of [] = Some LogicalUnitReset
reset_of (word ∷ []) = if bytes_eq word (codes "target") then Some TargetReset else None
reset_of operands = None

-- The verb `nexus`: an initiator loses its I_T nexus.
abbrev pub nexus_of : List (List ℕ) → Option Happening
nexus_of (initiator ∷ []) = option_map (λ i. NexusLoss i) (initiator_of Extended initiator)
nexus_of operands = None

-- The disk grows to a number of blocks, if a disk can have this number.
abbrev pub growing : (blocks : ℕ) → Option Happening
growing blocks = if is_between 1 blocks max_capacity then Some (Grow blocks) else None

-- The verb `grow`: the number of blocks that the disk has from then on.
abbrev pub grow_of : List (List ℕ) → Option Happening
grow_of (blocks ∷ []) = option_and_then growing (number_of blocks)
grow_of operands = None

-- The condition whose additional sense code is a word, as a transcript prints it.
pub record ConditionWord : Type 0 where
  pub code : List ℕ
  pub condition : UnitAttention

abbrev word : List ℕ → UnitAttention → ConditionWord
word code condition = record { code = code; condition = condition }

abbrev pub condition_words : List ConditionWord
condition_words =
    word (codes "28h/00h") MediumMayHaveChanged
    ∷ word (codes "29h/00h") PowerOn
    ∷ word (codes "29h/02h") ScsiBusReset
    ∷ word (codes "29h/03h") BusDeviceReset
    ∷ word (codes "29h/04h") DeviceInternalReset
    ∷ word (codes "29h/07h") NexusLoss
    ∷ word (codes "2Ah/01h") ModeParametersChanged
    ∷ word (codes "2Ah/03h") ReservationsPreempted
    ∷ word (codes "2Ah/04h") ReservationsReleased
    ∷ word (codes "2Ah/05h") RegistrationsPreempted
    ∷ word (codes "2Ah/06h") AsymmetricAccessStateChanged
    ∷ word (codes "2Ah/09h") CapacityDataChanged
    ∷ word (codes "38h/07h") SoftThresholdReached
    ∷ word (codes "3Fh/01h") MicrocodeChanged
    ∷ word (codes "3Fh/03h") InquiryDataChanged
    ∷ word (codes "3Fh/0Eh") ReportedLunsDataChanged
    ∷ []

abbrev pub condition_named : List ConditionWord → List ℕ → Option UnitAttention
condition_named [] code = None
condition_named (row ∷ rows) code =
    if bytes_eq code row.code then Some row.condition else condition_named rows code

abbrev pub and_initiator : (initiator : Option ℕ) → (others : Option Members) → Option Members
and_initiator (Some initiator) (Some others) = Some (with_member others initiator)
and_initiator initiator others = None

-- The initiators that words name. Their order does not matter.
unfoldable pub initiators_of : List (List ℕ) → Option Members
initiators_of [] = Some no_initiators
initiators_of (word ∷ words) = and_initiator (initiator_of Extended word) (initiators_of words)

abbrev pub establishing : Option UnitAttention → Option Members → Option Happening
establishing (Some condition) (Some initiators) = Some (Establish condition initiators)
establishing condition initiators = None

-- The verb `attention`: a condition is established for each initiator, or for those that words name.
abbrev pub attention_of : List (List ℕ) → Option Happening
attention_of [] = None
attention_of (code ∷ []) = establishing (condition_named condition_words code) (Some all_initiators)
attention_of (code ∷ first ∷ others) =
    establishing (condition_named condition_words code) (initiators_of (first ∷ others))
