-- The data-in of REPORT SUPPORTED OPERATION CODES (SPC-4, 6.35). All of it is in the rows of the
-- table.
use Rattle.std.specs.Prelude.{ℕ, ◌+◌, ◌-◌, ◌*◌, List, [], ◌∷◌, ◌++◌, length, map, filter, find, drop}
use Rattle.std.specs.Prelude.{Option, Some, None, Bool, true, false, not, ◌==◌, if◌then◌else◌}
use Rattle.std.specs.Prelude.{bit_and, bit_or}
use Rattle.std.specs.List.{flat_map, list_all, range_with_len}
use Rattle.sg_wire.specs.CdbDecoding.{action_places, bits_in, field_bits, rows_in}
use Rattle.sg_wire.specs.Fields.{Field, field, fields_bytes}
use Rattle.sg_wire.specs.Layout.{Layout, ServiceAction, length_of, table}
use Rattle.sg_wire.specs.Layout.ServiceAction.{none, named}
use Rattle.sg_wire.specs.Profile.{is_in}
use Rattle.sg_wire.specs.declared.command.report.ReportSupportedOperationCodes.{ReportSupportedOperationCodes}
use Rattle.sg_wire.specs.declared.command.supported.SupportReport.{SupportReport}
use Rattle.sg_wire.specs.declared.command.supported.SupportReport.TheVariants.{AllCommands, OneCommand}
use Rattle.sg_wire.specs.declared.profile.Profile.{Profile}
use Rattle.sg_wire.specs.declared.profile.Profile.TheVariants.{Extended}

abbrev pub has_action : ServiceAction → Bool
has_action none = false
has_action (named action) = true

-- SERVICE ACTION and REQUESTED SERVICE ACTION: zero for a command without one.
abbrev pub action_number : ServiceAction → ℕ
action_number none = 0
action_number (named action) = action

-- A bit of a byte.
abbrev bit_if : Bool → (bit : ℕ) → ℕ
bit_if is_set bit = if is_set then bit else 0

-- The command timeouts descriptor (SPC-4, 6.35.4): DESCRIPTOR LENGTH, a reserved byte, COMMAND
-- SPECIFIC, NOMINAL COMMAND PROCESSING TIMEOUT and RECOMMENDED COMMAND TIMEOUT. The disk indicates
-- no timeout.
abbrev pub timeouts_descriptor : (timeouts : Bool) → List Field
timeouts_descriptor false = []
timeouts_descriptor true = field 2 0x0A ∷ field 1 0 ∷ field 1 0 ∷ field 4 0 ∷ field 4 0 ∷ []

-- ---- All commands (SPC-4, 6.35.2)

-- OPERATION CODE, a reserved byte, SERVICE ACTION, a reserved byte, CTDP and SERVACTV, CDB LENGTH.
abbrev pub command_fields : (timeouts : Bool) → Layout → List Field
command_fields timeouts l =
    field 1 l.opcode ∷ field 1 0 ∷ field 2 (action_number l.action) ∷ field 1 0
    ∷ field 1 (bit_if timeouts 0x02 + bit_if (has_action l.action) 0x01)
    ∷ field 2 (length_of l.opcode) ∷ []

abbrev pub command_descriptor : (timeouts : Bool) → Layout → List ℕ
command_descriptor timeouts l =
    fields_bytes (command_fields timeouts l ++ timeouts_descriptor timeouts)

-- The rows of all commands that a disk of a profile has.
abbrev pub rows_of : Profile → List Layout
rows_of profile = filter (λ l. is_in l.profile profile) table

-- COMMAND DATA LENGTH, and a descriptor of each command.
unfoldable pub all_commands : Profile → (timeouts : Bool) → List ℕ
all_commands profile timeouts =
    let descriptors = flat_map (command_descriptor timeouts) (rows_of profile) in
    fields_bytes (field 4 (length descriptors) ∷ []) ++ descriptors

-- ---- One command (SPC-4, 6.35.3)

-- The bits that mean something, byte by byte. The disk ignores the others that may be set. Only an
-- extended disk reports them, so each field counts.
abbrev pub usage_in : Layout → ℕ → ℕ
usage_in l k =
    let fields = field_bits Extended l k in
    bit_or (fields - bit_and fields (bits_in k l.free.ignored)) (bits_in k l.free.used)

abbrev pub usage : Layout → List ℕ
usage l = map (usage_in l) (range_with_len 0 (length_of l.opcode))

-- CDB USAGE DATA: the operation code, and then the bits that mean something. In byte 1 the service
-- action is in its place.
abbrev pub usage_data : Layout → List ℕ
usage_data l =
    l.opcode
    ∷ (usage_in l 1 - bits_in 1 (action_places l.action) + action_number l.action)
    ∷ drop 2 (usage l)

-- SUPPORT: the disk does not have the command, or has it as a standard says.
abbrev not_supported : ℕ
not_supported = 0x01

abbrev as_in_standard : ℕ
as_in_standard = 0x03

-- A reserved byte, CTDP and SUPPORT, CDB SIZE.
abbrev pub support_fields : (timeouts : Bool) → Layout → List Field
support_fields timeouts l =
    field 1 0 ∷ field 1 (bit_if timeouts 0x80 + as_in_standard) ∷ field 2 (length_of l.opcode) ∷ []

-- The same fields of a command that the disk does not have. Nothing follows them.
-- Choice (SPC-4, 6.35.3): what follows SUPPORT is undefined then.
abbrev pub unsupported_fields : List Field
unsupported_fields = field 1 0 ∷ field 1 not_supported ∷ field 2 0 ∷ []

unfoldable pub one_command : (timeouts : Bool) → Option Layout → List ℕ
one_command timeouts None = fields_bytes unsupported_fields
one_command timeouts (Some l) =
    fields_bytes (support_fields timeouts l) ++ (usage_data l
    ++ fields_bytes (timeouts_descriptor timeouts))

-- ---- What a command requests

-- The row of an operation code and a service action, which is 0 for a command without one.
abbrev pub is_requested : (action : ℕ) → Layout → Bool
is_requested action l = action_number l.action == action

unfoldable pub row_requested : Profile → (opcode action : ℕ) → Option Layout
row_requested profile opcode action = find (is_requested action) (rows_in profile opcode)

-- The data-in on a disk of a profile.
abbrev pub report_data : Profile → SupportReport → List ℕ
report_data profile (AllCommands timeouts) = all_commands profile timeouts
report_data profile (OneCommand opcode action timeouts) =
    one_command timeouts (row_requested profile opcode action)

-- A command has a service action, if it is wanted to have one, and otherwise has none.
abbrev pub has_action_if : (wanted : Bool) → ServiceAction → Bool
has_action_if true action = has_action action
has_action_if false action = not (has_action action)

-- Each row of an operation code has a service action, or each has none.
unfoldable pub each_row_has : Profile → (opcode : ℕ) → (with_action : Bool) → Bool
each_row_has profile opcode with_action =
    list_all (λ (l : Layout). has_action_if with_action l.action) (rows_in profile opcode)

-- REPORTING OPTIONS: all commands, the command of an operation code, the command of an operation
-- code that has service actions, or the command of any operation code.
abbrev option_all : ℕ
option_all = 0b000

abbrev option_opcode : ℕ
option_opcode = 0b001

abbrev option_action : ℕ
option_action = 0b010

abbrev option_either : ℕ
option_either = 0b011

abbrev only_if : {A : Type 0} → Bool → A → Option A
only_if fits value = if fits then Some value else None

-- What a command requests. None if REPORTING OPTIONS does not fit the operation code, or is
-- reserved: then the disk refuses the command. With 001b the REQUESTED SERVICE ACTION does not matter.
-- Choice (SPC-4, 6.35.1): the sense data of a refusal may point to another byte.
unfoldable pub requested_report : Profile → ReportSupportedOperationCodes → Option SupportReport
requested_report profile c =
    if c.options == option_all then Some (AllCommands c.timeouts)
    else (if c.options == option_opcode
    then only_if (each_row_has profile c.opcode false) (OneCommand c.opcode 0 c.timeouts)
    else (if c.options == option_action
    then only_if (each_row_has profile c.opcode true) (OneCommand c.opcode c.action c.timeouts)
    else only_if (c.options == option_either) (OneCommand c.opcode c.action c.timeouts)))

-- ---- Its length

-- The most commands that a disk has, and the length of their data-in with timeouts, in bytes.
abbrev pub most_commands : ℕ
most_commands = 64

abbrev pub longest_support_report : ℕ
longest_support_report = 4 + 20 * most_commands
