-- Data-in that no refusal follows, in the words of the definitions.
use Rattle.std.specs.Prelude.{ℕ, Bool, true, false, List}
use Rattle.sg_wire.specs.Profile.{rules_of}
use Rattle.sg_wire.specs.SenseData.{sense_data}
use Rattle.sg_pages.specs.CapacityData.{capacity_10, capacity_16}
use Rattle.sg_pages.specs.DataLengths.{capacity_10_length, capacity_16_length}
use Rattle.sg_pages.specs.Reports.{longest_report, report_data}
use Rattle.sg_pages.specs.Identity.{IdentityFields}
use Rattle.sg_units.specs.declared.reservation_state.ReservationState.{ReservationState}
use Rattle.sg_units.specs.FullStatus.{longest_reserve_in}
use Rattle.sg_target.specs.DataInBound.{longest_inquiry, longest_sense}
use Rattle.sg_target.specs.PrimaryCommands.{inquiry_data}
use Rattle.sg_target.specs.Refusal.{pending_sense}
use Rattle.sg_target.specs.ReservationCommands.{reserve_in_data}
use Rattle.sg_target.specs.declared.operation.Operation.{Operation}
use Rattle.sg_target.specs.declared.operation.Operation.TheVariants.{ReturnSense, ReturnInquiry}
use Rattle.sg_target.specs.declared.operation.Operation.TheVariants.{ReturnModes, ReturnCapacity10}
use Rattle.sg_target.specs.declared.operation.Operation.TheVariants.{ReturnCapacity16, Read}
use Rattle.sg_target.specs.declared.operation.Operation.TheVariants.{ReturnLbaStatus}
use Rattle.sg_target.specs.declared.operation.Operation.TheVariants.{ReturnReservations}
use Rattle.sg_target.specs.declared.operation.Operation.TheVariants.{ReturnLuns, ReturnReport}
use Rattle.sg_target.specs.declared.data_in.DataIn.{DataIn}
use Rattle.sg_target.specs.declared.data_in.DataIn.TheVariants.{Sense, Inquiry, Reservations}
use Rattle.sg_target.specs.declared.data_in.DataIn.TheVariants.{Capacity10, Capacity16, Report}

-- The full data-in of a kind, of a disk with an identity, a number of blocks and reservations.
abbrev pub data_of : IdentityFields → (capacity : ℕ) → ReservationState → DataIn → List ℕ
data_of identity capacity reservations (Sense stopped condition format) =
    sense_data format (pending_sense stopped condition)
data_of identity capacity reservations (Inquiry page) = inquiry_data identity capacity page
data_of identity capacity reservations (Reservations action) =
    reserve_in_data (rules_of identity.profile) reservations action
data_of identity capacity reservations (Report report pool) =
    report_data identity.profile pool report
data_of identity capacity reservations Capacity10 = capacity_10 capacity
data_of identity capacity reservations Capacity16 = capacity_16 capacity identity.physical_block

-- An operation returns data.
abbrev pub returns_data : Operation → Bool
returns_data (ReturnSense format n) = true
returns_data (ReturnInquiry page n) = true
returns_data (ReturnModes request n) = true
returns_data (ReturnLuns listed n) = true
returns_data (ReturnReport report n) = true
returns_data ReturnCapacity10 = true
returns_data (ReturnCapacity16 n) = true
returns_data (Read extent) = true
returns_data (ReturnLbaStatus start n) = true
returns_data (ReturnReservations action n) = true
returns_data operation = false

-- The length of the longest data-in of a kind, in bytes.
abbrev pub longest_of : DataIn → ℕ
longest_of (Sense stopped condition format) = longest_sense
longest_of (Inquiry page) = longest_inquiry
longest_of (Reservations action) = longest_reserve_in
longest_of (Report report pool) = longest_report
longest_of Capacity10 = capacity_10_length
longest_of Capacity16 = capacity_16_length
