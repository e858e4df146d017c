-- How long the buffer for data-in has to be, by what a command asks for.
use Rattle.std.specs.Prelude.{ℕ, max, min, List, Result, Ok, Err, ◌*◌}
use Rattle.sg_wire.specs.LbaStatus.{status_data_length}
use Rattle.sg_store.specs.LbaStatus.{max_descriptors}
use Rattle.sg_pages.specs.DataLengths.{capacity_10_length, capacity_16_length, longest_list}
use Rattle.sg_pages.specs.DataLengths.{longest_page, longest_standard_inquiry}
use Rattle.sg_pages.specs.Reports.{longest_report}
use Rattle.sg_units.specs.FullStatus.{longest_reserve_in}
use Rattle.sg_target.specs.BlockCommands.{bytes_of}
use Rattle.sg_target.specs.Checks.{checked_cdb}
use Rattle.sg_target.specs.State.{State}
use Rattle.sg_target.specs.declared.operation.Operation.{Operation}
use Rattle.sg_target.specs.declared.operation.Operation.TheVariants.{ReturnSense, ReturnInquiry}
use Rattle.sg_target.specs.declared.operation.Operation.TheVariants.{ReturnModes, ReturnCapacity10}
use Rattle.sg_target.specs.declared.operation.Operation.TheVariants.{ReturnCapacity16, Read}
use Rattle.sg_target.specs.declared.operation.Operation.TheVariants.{ReturnLbaStatus}
use Rattle.sg_target.specs.declared.operation.Operation.TheVariants.{ReturnReservations}
use Rattle.sg_target.specs.declared.operation.Operation.TheVariants.{ReturnLuns, ReturnReport}
use Rattle.sg_target.specs.declared.refusal.Refusal.{Refusal}
use Rattle.sg_wire.specs.Profile.{maximum_transfer_length}
use Rattle.sg_pages.specs.BlockDescriptor.{logical_block_length}

-- The longest data-in, in bytes: the data-in of a READ of the most blocks.
abbrev pub longest_data_in : ℕ
longest_data_in = logical_block_length * maximum_transfer_length

-- ---- The longest data-in of some commands, in bytes

-- REQUEST SENSE: fixed format (SPC-4, 4.5.3). Descriptor format is shorter, because a unit attention
-- has neither INFORMATION nor a field pointer.
abbrev pub longest_sense : ℕ
longest_sense = 18

abbrev pub longest_inquiry : ℕ
longest_inquiry = max longest_standard_inquiry longest_page

abbrev pub longest_status : ℕ
longest_status = status_data_length max_descriptors

-- ---- How much a command returns

-- The most bytes of data-in that an operation returns: its allocation length, or the longest data
-- that it can return, if that is less. Other operations return none.
abbrev pub data_in_bound : Operation → ℕ
data_in_bound (ReturnSense format n) = min longest_sense n
data_in_bound (ReturnInquiry page n) = min longest_inquiry n
data_in_bound (ReturnModes request n) = min longest_list n
data_in_bound (ReturnLuns listed n) = min longest_report n
data_in_bound (ReturnReport report n) = min longest_report n
data_in_bound ReturnCapacity10 = capacity_10_length
data_in_bound (ReturnCapacity16 n) = min capacity_16_length n
data_in_bound (Read extent) = bytes_of extent
data_in_bound (ReturnLbaStatus start n) = min longest_status n
data_in_bound (ReturnReservations action n) = min longest_reserve_in n
data_in_bound operation = 0

-- The same for a command that the checks have passed, or refused.
abbrev pub checked_bound : Result Operation Refusal → ℕ
checked_bound (Ok operation) = data_in_bound operation
checked_bound (Err refusal) = 0

-- The length that the buffer for a CDB's data-in needs, in bytes.
abbrev pub needed_buffer : State → (initiator : ℕ) → (cdb data_out : List ℕ) → ℕ
needed_buffer state initiator cdb data_out =
    checked_bound (checked_cdb state initiator cdb data_out)
