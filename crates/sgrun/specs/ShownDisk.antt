-- The text of `--show-disk` (docs/SCRIPT.md): what the file of a disk holds, one fact a line.
use Rattle.std.specs.Prelude.{ℕ, ◌-◌, List, [], ◌++◌, codes, decimal, Bool, true, false}
use Rattle.std.specs.Prelude.{Option, Some, None}
use Rattle.std.specs.FinMap.{len}
use Rattle.std.specs.Int.{to_be_bytes, w64}
use Rattle.std.specs.List.{flat_map}
use Rattle.hex.specs.Hex.{encode_lower}
use Rattle.sg_pages.specs.Identity.{IdentityFields}
use Rattle.sg_pages.specs.declared.physical_block.PhysicalBlock.{PhysicalBlock}
use Rattle.sg_pages.specs.declared.physical_block.PhysicalBlock.TheVariants.{Of512, Of4096}
use Rattle.sg_pages.specs.ModePage.{byte_2}
use Rattle.sg_pages.specs.declared.mode_pages.mode_page.PageValues.{PageValues}
use Rattle.sg_run.specs.FaultText.{faults_text}
use Rattle.sg_store.specs.Disk.{Disk}
use Rattle.sg_store.specs.LbaStatus.{descriptors_from}
use Rattle.sg_target.specs.Armed.{Armed}
use Rattle.sg_target.specs.State.{State, profile_of}
use Rattle.sg_units.specs.ReservationType.{code_of}
use Rattle.sg_units.specs.declared.registrations.Registration.{Registration}
use Rattle.sg_units.specs.declared.reservation.Reservation.{Reservation}
use Rattle.sg_units.specs.declared.reservation_state.ReservationState.{ReservationState}
use Rattle.sg_wire.specs.Bits.{has_bit}
use Rattle.sg_wire.specs.declared.lba_status.ProvisioningStatus.{ProvisioningStatus}
use Rattle.sg_wire.specs.declared.lba_status.ProvisioningStatus.TheVariants.{Mapped, Anchored}
use Rattle.sg_wire.specs.declared.lba_status.ProvisioningStatus.TheVariants.{Deallocated}
use Rattle.sg_wire.specs.declared.lba_status.StatusDescriptor.{StatusDescriptor}
use Rattle.sg_wire.specs.declared.profile.Profile.{Profile}
use Rattle.sg_wire.specs.declared.profile.Profile.TheVariants.{Base, Extended}

-- ---- A line: two blanks, a label, a colon, a blank and a value

abbrev pub line : (label value : List ℕ) → List ℕ
line label value = codes "  " ++ (label ++ (codes ": " ++ (value ++ codes "\n")))

-- A number in decimal.
abbrev pub number_line : (label : List ℕ) → (number : ℕ) → List ℕ
number_line label number = line label (decimal number)

-- A name in brackets, because blanks may end it.
abbrev pub name_line : (label name : List ℕ) → List ℕ
name_line label name = line label (codes "[" ++ (name ++ codes "]"))

-- Bytes in hexadecimal.
abbrev pub hex_line : (label bytes : List ℕ) → List ℕ
hex_line label bytes = line label (encode_lower bytes)

abbrev pub flag : Bool → List ℕ
flag false = codes "0"
flag true = codes "1"

-- A number of 64 bits in 16 hexadecimal digits.
abbrev pub sixteen_digits : ℕ → List ℕ
sixteen_digits number = codes "0x" ++ encode_lower (to_be_bytes w64 number)

-- ---- The disk

abbrev pub profile_name : Profile → List ℕ
profile_name Base = codes "base"
profile_name Extended = codes "extended"

-- Its sizes in logical blocks. A block of the pool is used if an address is mapped or anchored to it.
unfoldable pub size_lines : Disk → List ℕ
size_lines disk =
    number_line (codes "blocks") disk.capacity
    ++ (number_line (codes "pool") disk.pool
    ++ number_line (codes "used") (len disk.contents))

-- Its physical blocks, if they are no logical blocks.
abbrev pub physical_lines : PhysicalBlock → List ℕ
physical_lines Of512 = []
physical_lines Of4096 = line (codes "physical block") (codes "4096")

-- What it was made as.
unfoldable pub identity_lines : IdentityFields → List ℕ
identity_lines identity =
    line (codes "profile") (profile_name identity.profile)
    ++ (line (codes "short data-out") (flag identity.takes_short_data_out)
    ++ (physical_lines identity.physical_block
    ++ (name_line (codes "vendor") identity.vendor
    ++ (name_line (codes "product") identity.product
    ++ (name_line (codes "revision") identity.revision
    ++ (name_line (codes "serial") identity.serial
    ++ line (codes "local identifier") (sixteen_digits identity.local)))))))

-- ---- Saved mode pages (SPC-4, 7.5): WCE, and the bytes of each page after its header

abbrev pub saves_wce : PageValues → Bool
saves_wce saved = has_bit (byte_2 saved.caching) 0x04

-- Only an extended disk has page 1Ch/02h.
abbrev pub provisioning_line : Profile → PageValues → List ℕ
provisioning_line Base saved = []
provisioning_line Extended saved = hex_line (codes "page 1Ch/02h") saved.provisioning

unfoldable pub page_lines : Profile → PageValues → List ℕ
page_lines profile saved =
    line (codes "WCE") (flag (saves_wce saved))
    ++ (hex_line (codes "page 01h") saved.error_recovery
    ++ (hex_line (codes "page 08h") saved.caching
    ++ (hex_line (codes "page 0Ah") saved.control
    ++ (hex_line (codes "page 1Ch") saved.exceptions_control ++ provisioning_line profile saved))))

-- ---- Registrations and reservation (SPC-4, 5.13)

-- A registration for every target port (ALL_TG_PT) says so.
abbrev pub ports_text : (all_tg_pt : Bool) → List ℕ
ports_text true = codes ", all target ports"
ports_text false = []

unfoldable pub registration_line : Registration → List ℕ
registration_line registration =
    codes "  initiator: " ++ (decimal registration.initiator ++ (codes ", key: "
    ++ (sixteen_digits registration.key ++ (ports_text registration.all_tg_pt ++ codes "\n"))))

-- Each registrant holds an all registrants reservation.
abbrev pub holder_text : Option ℕ → List ℕ
holder_text None = codes "all"
holder_text (Some initiator) = decimal initiator

abbrev pub held_reservation_line : Reservation → List ℕ
held_reservation_line held =
    codes "  type: " ++ (decimal (code_of held.kind) ++ (codes ", holder: "
    ++ (holder_text held.holder ++ codes "\n")))

abbrev pub reservation_line : Option Reservation → List ℕ
reservation_line None = []
reservation_line (Some held) = held_reservation_line held

unfoldable pub reservation_lines : ReservationState → List ℕ
reservation_lines state =
    line (codes "APTPL") (flag state.persists_through_power_loss)
    ++ (flat_map registration_line state.registrations ++ reservation_line state.reservation)

-- ---- Blocks

-- The runs of addresses with one provisioning status, from an address to the end of the disk. They are
-- the descriptors of GET LBA STATUS (SBC-3, 5.4), as many as there are.
unfoldable pub runs_from : Disk → (lba : ℕ) → List StatusDescriptor
runs_from disk lba = descriptors_from disk.contents disk.capacity lba (disk.capacity - lba)

-- The first address and the number of addresses.
abbrev pub extent_line : (status : List ℕ) → (lba count : ℕ) → List ℕ
extent_line status lba count =
    status ++ (decimal lba ++ (codes " " ++ (decimal count ++ codes "\n")))

abbrev pub line_of_run : ProvisioningStatus → (lba count : ℕ) → List ℕ
line_of_run Mapped lba count = extent_line (codes "  mapped ") lba count
line_of_run Anchored lba count = extent_line (codes "  anchored ") lba count
line_of_run Deallocated lba count = []

abbrev pub run_line : StatusDescriptor → List ℕ
run_line run = line_of_run run.status run.lba run.count

abbrev pub run_lines_from : Disk → (lba : ℕ) → List ℕ
run_lines_from disk lba = flat_map run_line (runs_from disk lba)

abbrev pub block_lines : Disk → List ℕ
block_lines disk = codes "BLOCKS\n" ++ run_lines_from disk 0

-- ---- The text

-- The length of the file in bytes and the number of its batches, and what it has of the disk's state but
-- the blocks.
unfoldable pub facts : (length batches : ℕ) → State → List ℕ
facts length batches state =
    codes "FILE\n" ++ (number_line (codes "length") length
    ++ (number_line (codes "batches") batches
    ++ (codes "DISK\n" ++ (size_lines state.disk ++ (identity_lines state.identity
    ++ (codes "SAVED MODE PAGES\n" ++ (page_lines (profile_of state) state.modes.saved
    ++ (codes "RESERVATIONS\n" ++ reservation_lines state.reservations))))))))

-- The armed faults are listed as the verb `faults` of a script lists them.
abbrev pub shown_disk : (length batches : ℕ) → Armed → List ℕ
shown_disk length batches disk =
    facts length batches disk.state
    ++ (codes "FAULTS\n" ++ (faults_text (profile_of disk.state) disk.faults ++ block_lines disk.state.disk))
