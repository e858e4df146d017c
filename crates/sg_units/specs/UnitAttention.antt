-- Unit attention conditions (SAM-5, 5.14).
use Rattle.std.specs.Prelude.{ℕ, ◌+◌, ◌*◌, List, [], ◌∷◌, length}
use Rattle.std.specs.Prelude.{Bool, not, ◌&&◌, ◌||◌, ◌==◌, find, is_some, Option, Some, None}
use Rattle.sg_units.specs.declared.unit_attention.UnitAttention.{UnitAttention}
use Rattle.sg_units.specs.declared.unit_attention.UnitAttention.TheVariants.{MediumMayHaveChanged}
use Rattle.sg_units.specs.declared.unit_attention.UnitAttention.TheVariants.{PowerOn, ScsiBusReset}
use Rattle.sg_units.specs.declared.unit_attention.UnitAttention.TheVariants.{BusDeviceReset}
use Rattle.sg_units.specs.declared.unit_attention.UnitAttention.TheVariants.{DeviceInternalReset, NexusLoss}
use Rattle.sg_units.specs.declared.unit_attention.UnitAttention.TheVariants.{ModeParametersChanged}
use Rattle.sg_units.specs.declared.unit_attention.UnitAttention.TheVariants.{ReservationsPreempted}
use Rattle.sg_units.specs.declared.unit_attention.UnitAttention.TheVariants.{ReservationsReleased}
use Rattle.sg_units.specs.declared.unit_attention.UnitAttention.TheVariants.{RegistrationsPreempted}
use Rattle.sg_units.specs.declared.unit_attention.UnitAttention.TheVariants.{AsymmetricAccessStateChanged}
use Rattle.sg_units.specs.declared.unit_attention.UnitAttention.TheVariants.{CapacityDataChanged}
use Rattle.sg_units.specs.declared.unit_attention.UnitAttention.TheVariants.{SoftThresholdReached}
use Rattle.sg_units.specs.declared.unit_attention.UnitAttention.TheVariants.{MicrocodeChanged}
use Rattle.sg_units.specs.declared.unit_attention.UnitAttention.TheVariants.{InquiryDataChanged}
use Rattle.sg_units.specs.declared.unit_attention.UnitAttention.TheVariants.{ReportedLunsDataChanged}

-- Each condition once.
abbrev pub each_condition : List UnitAttention
each_condition =
    MediumMayHaveChanged
    ∷ PowerOn
    ∷ ScsiBusReset
    ∷ BusDeviceReset
    ∷ DeviceInternalReset
    ∷ NexusLoss
    ∷ ModeParametersChanged
    ∷ ReservationsPreempted
    ∷ ReservationsReleased
    ∷ RegistrationsPreempted
    ∷ AsymmetricAccessStateChanged
    ∷ CapacityDataChanged
    ∷ SoftThresholdReached
    ∷ MicrocodeChanged
    ∷ InquiryDataChanged
    ∷ ReportedLunsDataChanged
    ∷ []

-- The number of conditions.
abbrev pub condition_count : ℕ
condition_count = length each_condition

-- The additional sense code and qualifier of a condition (SPC-4, additional sense codes).
abbrev pub code_of : UnitAttention → ℕ × ℕ
code_of MediumMayHaveChanged = (0x28, 0x00)
code_of PowerOn = (0x29, 0x00)
code_of ScsiBusReset = (0x29, 0x02)
code_of BusDeviceReset = (0x29, 0x03)
code_of DeviceInternalReset = (0x29, 0x04)
code_of NexusLoss = (0x29, 0x07)
code_of ModeParametersChanged = (0x2A, 0x01)
code_of ReservationsPreempted = (0x2A, 0x03)
code_of ReservationsReleased = (0x2A, 0x04)
code_of RegistrationsPreempted = (0x2A, 0x05)
code_of AsymmetricAccessStateChanged = (0x2A, 0x06)
code_of CapacityDataChanged = (0x2A, 0x09)
code_of SoftThresholdReached = (0x38, 0x07)
code_of MicrocodeChanged = (0x3F, 0x01)
code_of InquiryDataChanged = (0x3F, 0x03)
code_of ReportedLunsDataChanged = (0x3F, 0x0E)

-- The condition with an additional sense code and qualifier, if there is one.
abbrev pub has_code : (asc ascq : ℕ) → UnitAttention → Bool
has_code asc ascq condition = (code_of condition).0 == asc && (code_of condition).1 == ascq

abbrev pub condition_with : (asc ascq : ℕ) → Option UnitAttention
condition_with asc ascq = find (has_code asc ascq) each_condition

-- Both as one number, big-endian. Conditions are compared by this number.
abbrev pub number_of : UnitAttention → ℕ
number_of condition = 256 * (code_of condition).0 + (code_of condition).1

-- The precedence of a condition that a reset or a lost I_T nexus establishes: 0 is the highest
-- (SAM-5, 5.14). Other conditions have none.
abbrev pub reset_precedence : UnitAttention → Option ℕ
reset_precedence PowerOn = Some 0
reset_precedence DeviceInternalReset = Some 1
reset_precedence ScsiBusReset = Some 2
reset_precedence BusDeviceReset = Some 3
reset_precedence NexusLoss = Some 4
reset_precedence _ = None

abbrev pub is_reset : UnitAttention → Bool
is_reset condition = is_some (reset_precedence condition)

-- The additional sense code of every reset: POWER ON, RESET, OR BUS DEVICE RESET OCCURRED.
abbrev pub reset_code : ℕ
reset_code = 0x29

-- A condition is reported in place of a command, even if the command conflicts with a reservation
-- (SAM-5, 5.3.3). Every condition is if resets are not the only ones. MICROCODE HAS BEEN CHANGED has the
-- rank of a reset.
abbrev pub outranks_conflict : (only_resets : Bool) → UnitAttention → Bool
outranks_conflict only_resets condition =
    not only_resets || ((code_of condition).0 == reset_code || has_code 0x3F 0x01 condition)
