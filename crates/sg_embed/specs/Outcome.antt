-- The outcome of each call, by the number that the header has for C.
use Rattle.std.specs.Prelude.{◌≡◌, ◌⊎◌, ℕ, List, Option, None, Some, Result, Ok, Err, Bool, true, false}
use Rattle.std.specs.Prelude.{if◌then◌else◌, is_some, not, nat_le, nat_lt}
use Rattle.sg_journal.specs.declared.fault.Fault.TheVariants as journal_fault
use Rattle.sg_kept.specs.declared.opening.MakeError.{MakeError}
use Rattle.sg_kept.specs.declared.opening.MakeError.TheVariants as make_fault
use Rattle.sg_kept.specs.declared.opening.OpenDiskError.{OpenDiskError}
use Rattle.sg_kept.specs.declared.opening.OpenDiskError.TheVariants as open_fault
use Rattle.sg_pages.specs.declared.identity.IdentityFault.{IdentityFault}
use Rattle.sg_pages.specs.declared.identity.IdentityFault.TheVariants.{Text, Local}
use Rattle.sg_target.specs.Config.{ConfigFields, checked_config}
use Rattle.sg_target.specs.DataInBound.{needed_buffer}
use Rattle.sg_target.specs.declared.happening.Happening.{Happening}
use Rattle.sg_target.specs.declared.config.ConfigFault.{ConfigFault}
use Rattle.sg_target.specs.declared.config.ConfigFault.TheVariants.{Blocks, Pool}
use Rattle.sg_tools.specs.ParameterLists.{max_data_out}
use Rattle.sg_tools.specs.declared.tool.Tool.{Tool}
use Rattle.sg_tools.specs.declared.tool_fault.ToolFault.{ToolFault}
use Rattle.sg_tools.specs.declared.tool_fault.ToolFault.TheVariants as tool_fault
use Rattle.sg_run.specs.ToolText.{tool_of_text}
use Rattle.sg_run.specs.declared.request.text_fault.TextFault.{TextFault}
use Rattle.sg_run.specs.declared.request.text_fault.TextFault.TheVariants as text_fault
use Rattle.sg_pages.specs.Identity.{IdentityFields}
use Rattle.sg_embed.specs.Executed.{disk_config}
use Rattle.sg_embed.specs.Room.{has_room_for}
use Rattle.sg_embed.specs.Served.{device_of, initiators_of, target_of}
use Rattle.sg_embed.specs.declared.kept.Kept.{Kept}
use Rattle.sg_embed.specs.declared.outcome.Outcome.{Outcome}
use Rattle.sg_embed.specs.declared.outcome.Outcome.TheVariants.{Done, NoDisk, DiskExists}
use Rattle.sg_embed.specs.declared.outcome.Outcome.TheVariants.{BlockCount, PoolSize}
use Rattle.sg_embed.specs.declared.outcome.Outcome.TheVariants.{IdentityText, IdentityLocal, OutOfMemory}
use Rattle.sg_embed.specs.declared.outcome.Outcome.TheVariants.{UnknownInitiator, BufferTooShort, Unreadable}
use Rattle.sg_embed.specs.declared.outcome.Outcome.TheVariants.{BadByte, TooManyWords, UnknownTool}
use Rattle.sg_embed.specs.declared.outcome.Outcome.TheVariants.{Usage, Exclusive, Number}
use Rattle.sg_embed.specs.declared.outcome.Outcome.TheVariants.{UnknownProfile, UnknownHappening}
use Rattle.sg_embed.specs.declared.outcome.Outcome.TheVariants.{UnknownCondition}
use Rattle.sg_embed.specs.declared.outcome.Outcome.TheVariants.{UnknownFault, SenseKey, FaultFlag}
use Rattle.sg_embed.specs.declared.outcome.Outcome.TheVariants.{FaultNumber, TooManyFaults, UnknownVerb}
use Rattle.sg_embed.specs.declared.outcome.Outcome.TheVariants.{FileFailed, NotADisk, OtherVersion}
use Rattle.sg_embed.specs.declared.outcome.Outcome.TheVariants.{DamagedFile, FileTooLong, OtherProfile}
use Rattle.sg_embed.specs.declared.outcome.Outcome.TheVariants.{OtherBlocks, OtherPool, OtherIdentity}
use Rattle.sg_embed.specs.declared.outcome.Outcome.TheVariants.{CallsWait, NoCall, NoFile, FlushOwed}

-- The numbers of the header. Number 10 is MDL_NULL_POINTER: the functions that test C's pointers
-- return it before any call that is defined here. Numbers 28, MDL_FILE_BUSY, and 39, MDL_CANNOT_OPEN,
-- are of files that the system does not lock or open: the functions of C that open files return them.
abbrev pub outcome_code : Outcome → ℕ
outcome_code Done = 0
outcome_code NoDisk = 1
outcome_code DiskExists = 2
outcome_code BlockCount = 3
outcome_code PoolSize = 4
outcome_code IdentityText = 5
outcome_code IdentityLocal = 6
outcome_code OutOfMemory = 7
outcome_code UnknownInitiator = 8
outcome_code BufferTooShort = 9
outcome_code Unreadable = 11
outcome_code BadByte = 12
outcome_code TooManyWords = 13
outcome_code UnknownTool = 14
outcome_code Usage = 15
outcome_code Exclusive = 16
outcome_code Number = 17
outcome_code UnknownProfile = 18
outcome_code UnknownHappening = 19
outcome_code UnknownCondition = 20
outcome_code UnknownFault = 21
outcome_code SenseKey = 22
outcome_code FaultFlag = 23
outcome_code FaultNumber = 24
outcome_code TooManyFaults = 25
outcome_code UnknownVerb = 26
outcome_code FileFailed = 27
outcome_code NotADisk = 29
outcome_code OtherVersion = 30
outcome_code DamagedFile = 31
outcome_code FileTooLong = 32
outcome_code OtherProfile = 33
outcome_code OtherBlocks = 34
outcome_code OtherPool = 35
outcome_code OtherIdentity = 36
outcome_code CallsWait = 37
outcome_code NoCall = 38
outcome_code NoFile = 40
outcome_code FlushOwed = 41

-- A call asks for memory before it ends with this outcome.
abbrev pub has_asked : Outcome → Bool
has_asked Done = true
has_asked OutOfMemory = true
has_asked Usage = true
has_asked Exclusive = true
has_asked Number = true
has_asked outcome = false

-- A call ends as expected; or memory was refused, if a call that ends as expected asks for memory.
abbrev pub IsUnlessOutOfMemory : (expected outcome : Outcome) → Type 0
IsUnlessOutOfMemory expected outcome =
    (outcome ≡ expected) ⊎ ((outcome ≡ OutOfMemory) × (has_asked expected ≡ true))

-- The same, for the number of an outcome.
abbrev pub IsCodeUnlessOutOfMemory : (expected : Outcome) → (code : ℕ) → Type 0
IsCodeUnlessOutOfMemory expected code =
    (code ≡ outcome_code expected)
    ⊎ ((code ≡ outcome_code OutOfMemory) × (has_asked expected ≡ true))

abbrev pub identity_outcome : IdentityFault → Outcome
identity_outcome Text = IdentityText
identity_outcome Local = IdentityLocal

-- The outcome of making an identity, or the reason why it is refused.
abbrev pub names_outcome : Result IdentityFields IdentityFault → Outcome
names_outcome (Ok names) = Done
names_outcome (Err fault) = identity_outcome fault

abbrev pub config_outcome : ConfigFault → Outcome
config_outcome Blocks = BlockCount
config_outcome Pool = PoolSize

abbrev checked_outcome : Result ConfigFields ConfigFault → Outcome
checked_outcome (Ok config) = Done
checked_outcome (Err fault) = config_outcome fault

-- The outcome of a file that is not opened. A file without a batch was never completely made.
abbrev pub opening_outcome : OpenDiskError → Outcome
opening_outcome open_fault.Memory = OutOfMemory
opening_outcome open_fault.Device = FileFailed
opening_outcome (open_fault.File journal_fault.NotADisk) = NotADisk
opening_outcome (open_fault.File (journal_fault.OtherVersion version)) = OtherVersion
opening_outcome (open_fault.File (journal_fault.Damaged at)) = DamagedFile
opening_outcome open_fault.Unmade = NotADisk
opening_outcome (open_fault.Damaged batch offset) = DamagedFile
opening_outcome open_fault.TooLong = FileTooLong

-- The outcome of a disk that is not made in an empty file.
abbrev pub making_outcome : MakeError → Outcome
making_outcome make_fault.Memory = OutOfMemory
making_outcome make_fault.Device = FileFailed

-- The outcome of making a disk, unless memory is refused.
abbrev pub make_outcome : Option Kept → ConfigFields → Outcome
make_outcome (Some disk) config = DiskExists
make_outcome None config = checked_outcome (checked_config config)

-- A disk has an initiator with a number.
abbrev pub has_initiator : Kept → (initiator : ℕ) → Bool
has_initiator disk initiator = nat_lt initiator (initiators_of disk.target)

-- The outcome of a command of an initiator, with a buffer for data-in of some length. Each is
-- checked before anything is executed.
abbrev pub execute_outcome : Option Kept → (initiator : ℕ) → (cdb data_out : List ℕ) → (room : ℕ) → Outcome
execute_outcome None initiator cdb data_out room = NoDisk
execute_outcome (Some disk) initiator cdb data_out room =
    if not (has_initiator disk initiator) then UnknownInitiator
    else (if nat_le (needed_buffer (target_of disk.target).state initiator cdb data_out) room then Done
    else BufferTooShort)

-- The outcome of a call that needs a disk in a file.
abbrev pub file_outcome : Option Kept → Outcome
file_outcome None = NoDisk
file_outcome (Some disk) = if is_some (device_of disk.target) then Done else NoFile

-- The outcome of forgetting an initiator's port.
abbrev pub forget_outcome : Option Kept → (initiator : ℕ) → Outcome
forget_outcome None initiator = NoDisk
forget_outcome (Some disk) initiator = if has_initiator disk initiator then Done else UnknownInitiator

-- The outcome of what happens to a disk. What is asked for is checked first, and a free number for
-- an armed fault last.
abbrev pub happen_outcome : Option Kept → Result Happening Outcome → Outcome
happen_outcome held (Err outcome) = outcome
happen_outcome None (Ok happening) = NoDisk
happen_outcome (Some disk) (Ok happening) =
    if has_room_for happening (target_of disk.target).faults then Done else TooManyFaults

-- The outcome of making a disk with an identity, which is checked first.
abbrev pub make_as_outcome : Option Kept → (blocks pool : ℕ) → Result IdentityFields IdentityFault → Outcome
make_as_outcome held blocks pool (Ok identity) = make_outcome held (disk_config blocks pool identity)
make_as_outcome held blocks pool (Err fault) = identity_outcome fault

-- The outcome of making a disk with an identity that has the profile that was asked for, or of which
-- it is known why it is refused.
abbrev pub make_with_outcome : Option Kept → (blocks pool : ℕ) → Result IdentityFields Outcome → Outcome
make_with_outcome held blocks pool (Ok identity) = make_outcome held (disk_config blocks pool identity)
make_with_outcome held blocks pool (Err outcome) = outcome

abbrev pub tool_fault_outcome : ToolFault → Outcome
tool_fault_outcome tool_fault.Usage = Usage
tool_fault_outcome tool_fault.Exclusive = Exclusive
tool_fault_outcome tool_fault.Number = Number
tool_fault_outcome tool_fault.OutOfMemory = OutOfMemory

abbrev pub text_outcome : TextFault → Outcome
text_outcome text_fault.BadByte = BadByte
text_outcome text_fault.TooManyWords = TooManyWords
text_outcome text_fault.UnknownTool = UnknownTool
text_outcome (text_fault.Refused fault) = tool_fault_outcome fault

abbrev pub asked_outcome : Result Tool TextFault → Outcome
asked_outcome (Ok tool) = Done
asked_outcome (Err fault) = text_outcome fault

-- The outcome of planning a tool's command, unless memory is refused, for a text and a buffer for
-- data-out of some length. The buffer is checked first.
abbrev pub plan_outcome : (text : List ℕ) → (room : ℕ) → Outcome
plan_outcome text room =
    if not (nat_le max_data_out room) then BufferTooShort else asked_outcome (tool_of_text text)

-- The outcome of a call that returns a value, or the reason why it is refused.
abbrev pub outcome_of : {T : Type 0} → Result T Outcome → Outcome
outcome_of (Ok value) = Done
outcome_of (Err outcome) = outcome

-- What holds by the outcome that has a number.
pub record ByOutcome (P : Outcome → Type 0) (code : ℕ) : Type 0 where
  pub outcome : Outcome
  pub number : code ≡ outcome_code outcome
  pub holds : P outcome
