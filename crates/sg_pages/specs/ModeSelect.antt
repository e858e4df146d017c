-- The effect of MODE SELECT with a mode parameter list (SPC-4, 7.5).
use Rattle.std.specs.Prelude.{ℕ, zero, suc, ◌+◌, ◌-◌, min, nat_lt, bit_or, replicate}
use Rattle.std.specs.Prelude.{List, [], ◌∷◌, ◌++◌, length, take, drop, slice_index}
use Rattle.std.specs.Prelude.{map, find, reverse, Bool, false, not, ◌&&◌, ◌||◌, ◌==◌, if◌then◌else◌}
use Rattle.std.specs.Prelude.{Option, Some, None, unwrap_or, Result, Ok, Err}
use Rattle.std.specs.List.{flat_map, list_all}
use Rattle.std.specs.Option.{option_map, option_map_or}
use Rattle.std.specs.Result.{result_map_both}
use Rattle.std.specs.Str.{bytes_eq}
use Rattle.byteorder.specs.Endian.{big_number}
use Rattle.sg_wire.specs.Bits.{bits_of, has_bit}
use Rattle.sg_wire.specs.Profile.{rules_of}
use Rattle.sg_wire.specs.declared.profile.Profile.{Profile}
use Rattle.sg_wire.specs.declared.command.mode.CdbWidth.{CdbWidth}
use Rattle.sg_wire.specs.declared.command.mode.CdbWidth.TheVariants.{Six, Ten}
use Rattle.sg_pages.specs.declared.mode_pages.mode_page.ModePage.{ModePage}
use Rattle.sg_pages.specs.declared.mode_pages.mode_page.PageValues.{PageValues}
use Rattle.sg_pages.specs.declared.mode_pages.mode_select.Changed.{Changed}
use Rattle.sg_pages.specs.declared.mode_pages.mode_select.ModeSelectFault.{ModeSelectFault}
use Rattle.sg_pages.specs.declared.mode_pages.mode_select.ModeSelectFault.TheVariants.{Length}
use Rattle.sg_pages.specs.declared.mode_pages.mode_select.ModeSelectFault.TheVariants.{Field}
use Rattle.sg_pages.specs.ModePage.{ModeState, row_of, first_byte, page_with, page_header_length}
use Rattle.sg_pages.specs.ModePage.{values_of, by_page, page_data, parameters_saveable, subpage_format}
use Rattle.sg_pages.specs.BlockDescriptor.{number_length, descriptor_length, block_descriptor}
use Rattle.sg_pages.specs.BlockDescriptor.{descriptor_fields}
use Rattle.sg_pages.specs.declared.mode_pages.multi_byte_field.MultiByteField.{MultiByteField}
use Rattle.sg_pages.specs.MultiByteField.{first_byte_in}

-- ---- The parts of the list

-- A part of the list: the offset of its first byte, its size, and its bytes. The size is the number
-- of bytes that the list's own length fields give it. The bytes are those that the list has.
pub record Part : Type 0 where
  pub offset : ℕ
  pub size : ℕ
  pub bytes : List ℕ

abbrev pub part_at : (offset size : ℕ) → List ℕ → Part
part_at offset size list =
    record { offset = offset; size = size; bytes = take size (drop offset list) }

-- The header has 4 bytes in MODE SELECT(6) and 8 in MODE SELECT(10).
abbrev pub header_length : (width : CdbWidth) → ℕ
header_length Six = 4
header_length Ten = 8

abbrev pub header_in : (width : CdbWidth) → List ℕ → Part
header_in width list = part_at 0 (header_length width) list

-- BLOCK DESCRIPTOR LENGTH ends the header: one byte, or two in MODE SELECT(10).
abbrev pub length_offset : (width : CdbWidth) → ℕ
length_offset Six = 3
length_offset Ten = 6

abbrev pub block_descriptor_length : (width : CdbWidth) → List ℕ → ℕ
block_descriptor_length Six list = slice_index list 3
block_descriptor_length Ten list = big_number 2 (drop 6 list)

-- LONGLBA, byte 4 bit 0 of the longer header: the block descriptor is the long one.
abbrev pub has_longlba : (width : CdbWidth) → List ℕ → Bool
has_longlba Six list = false
has_longlba Ten list = has_bit (slice_index list 4) 0x01

abbrev pub descriptor_in : (width : CdbWidth) → List ℕ → Part
descriptor_in width list = part_at (header_length width) (block_descriptor_length width list) list

-- A page has a header, and then as many bytes as its PAGE LENGTH says. With SPF the header has four bytes,
-- and PAGE LENGTH is the last two of them; without SPF it has two, and PAGE LENGTH is the second. A byte of
-- PAGE LENGTH that the list does not have counts as zero.
abbrev pub page_size : (page : List ℕ) → ℕ
page_size page =
    if has_bit (slice_index page 0) subpage_format then 4 + big_number 2 (drop 2 page)
    else 2 + slice_index page 1

abbrev pub page_at : (offset : ℕ) → List ℕ → Part
page_at offset list = part_at offset (page_size (drop offset list)) list

-- The pages from an offset on, up to the end of the list, at most `count` of them.
abbrev pub pages_up_to : (count offset : ℕ) → List ℕ → List Part
pages_up_to zero offset list = []
pages_up_to (suc count) offset list =
    let page = page_at offset list in
    if nat_lt offset (length list) then page ∷ pages_up_to count (offset + page.size) list else []

-- No list has more pages than bytes.
unfoldable pub pages_from : (offset : ℕ) → List ℕ → List Part
pages_from offset list = pages_up_to (length list) offset list

abbrev pub pages_in : (width : CdbWidth) → List ℕ → List Part
pages_in width list = pages_from (header_length width + block_descriptor_length width list) list

-- ---- Faults, each with the offset of its byte

-- The offsets of the bytes that differ from the expected ones in a bit that is not ignored. The
-- first byte is at `offset`.
abbrev pub differences : (offset : ℕ) → (expected ignored bytes : List ℕ) → List ℕ
differences offset [] ignored bytes = []
differences offset (e ∷ expected) [] bytes = []
differences offset (e ∷ expected) (i ∷ ignored) [] = []
differences offset (e ∷ expected) (i ∷ ignored) (byte ∷ bytes) =
    let rest = differences (offset + 1) expected ignored bytes in
    if bit_or byte i == bit_or e i then rest else offset ∷ rest

-- The list ends within the part: the fault is at the end of the list.
abbrev pub truncation_of : Part → List ℕ
truncation_of p =
    if nat_lt (length p.bytes) p.size then (p.offset + length p.bytes) ∷ [] else []

-- A part has to have the expected bytes, except for the ignored bits, and has to be whole.
abbrev pub part_faults : (expected ignored : List ℕ) → Part → List ℕ
part_faults expected ignored p = differences p.offset expected ignored p.bytes ++ truncation_of p

-- On an extended disk the pointer goes to the first byte of a field of several bytes. On a base disk
-- each byte is a field of its own.
abbrev pub pointed_fields : Profile → List MultiByteField → List MultiByteField
pointed_fields profile fields = if (rules_of profile).points_at_fields then fields else []

-- The same faults as `part_faults`. A byte that differs points to the first byte of its field.
abbrev pub field_faults : (fields : List MultiByteField) (expected ignored : List ℕ) → Part → List ℕ
field_faults fields expected ignored p =
    map (first_byte_in fields p.offset) (differences p.offset expected ignored p.bytes) ++ truncation_of p

-- The ignored bits of the header before BLOCK DESCRIPTOR LENGTH: MODE DATA LENGTH, DEVICE-SPECIFIC
-- PARAMETER and LONGLBA. MEDIUM TYPE and the reserved bits have to be zero.
-- Choice (SPC-4, 6.11): a reserved bit among them may be refused.
abbrev pub ignored_header_bits : (width : CdbWidth) → List ℕ
ignored_header_bits Six = 0xFF ∷ 0x00 ∷ 0xFF ∷ []
ignored_header_bits Ten = 0xFF ∷ 0xFF ∷ 0x00 ∷ 0xFF ∷ 0x01 ∷ 0x00 ∷ []

abbrev pub zeros_for : List ℕ → List ℕ
zeros_for bytes = map (λ _. 0) bytes

-- BLOCK DESCRIPTOR LENGTH is 0, or the length of the descriptor that LONGLBA names.
abbrev pub is_descriptor_length : (width : CdbWidth) → List ℕ → Bool
is_descriptor_length width list =
    block_descriptor_length width list == 0
    || block_descriptor_length width list == descriptor_length (has_longlba width list)

-- BLOCK DESCRIPTOR LENGTH is checked if the list has the whole header.
abbrev pub length_faults : (width : CdbWidth) → List ℕ → List ℕ
length_faults width list =
    if nat_lt (length list) (header_length width) || is_descriptor_length width list then []
    else length_offset width ∷ []

abbrev pub header_faults : (width : CdbWidth) → List ℕ → List ℕ
header_faults width list =
    let ignored = ignored_header_bits width in
    part_faults (zeros_for ignored) ignored (header_in width list) ++ length_faults width list

-- The block descriptor has to be the disk's own. A NUMBER OF LOGICAL BLOCKS of zero is accepted
-- too: its bytes are zero, as far as the list has them. If it is ignored, no number is compared.
abbrev pub accepted_blocks : (blocks : Option ℕ) → (number : List ℕ) → ℕ
accepted_blocks None number = 0
accepted_blocks (Some blocks) number = if list_all (λ byte. byte == 0) number then 0 else blocks

abbrev pub accepted_descriptor : (long : Bool) (blocks : Option ℕ) → (sent : List ℕ) → List ℕ
accepted_descriptor long blocks sent =
    block_descriptor long (accepted_blocks blocks (take (number_length long) sent))

-- The bits of the descriptor that are ignored: those of NUMBER OF LOGICAL BLOCKS, or none.
abbrev pub ignored_number_bits : (blocks : Option ℕ) → ℕ
ignored_number_bits None = 0xFF
ignored_number_bits (Some blocks) = 0x00

abbrev pub ignored_descriptor_bits : (long : Bool) (blocks : Option ℕ) → List ℕ
ignored_descriptor_bits long blocks =
    replicate (number_length long) (ignored_number_bits blocks)
    ++ replicate (descriptor_length long - number_length long) 0x00

abbrev pub descriptor_faults : (width : CdbWidth) (blocks : Option ℕ) → Profile → List ℕ → List ℕ
descriptor_faults width blocks profile list =
    let sent = descriptor_in width list in
    let long = has_longlba width list in
    field_faults (pointed_fields profile (descriptor_fields long))
    (accepted_descriptor long blocks sent.bytes) (ignored_descriptor_bits long blocks) sent

-- SPF and PAGE CODE of a page that was sent.
abbrev pub sent_first : Part → ℕ
sent_first sent = bits_of (slice_index sent.bytes 0) 6 0

-- PS is ignored.
abbrev pub ignored_page_header_bits : ModePage → List ℕ
ignored_page_header_bits page = take (page_header_length page) (parameters_saveable ∷ replicate 3 0x00)

-- A page has to be as it is now, except for PS and the bits that can be changed.
-- Choice (SPC-4, 6.11): a change of a reserved bit may be overlooked.
abbrev pub faults_against : Profile → (current : PageValues) → Part → ModePage → List ℕ
faults_against profile current sent page =
    field_faults (pointed_fields profile (row_of page).fields) (page_data current page)
    (ignored_page_header_bits page ++ (row_of page).changeable profile) sent

-- If the disk does not have a page, the page's first byte is at fault.
abbrev pub page_faults : Profile → (current : PageValues) → Part → List ℕ
page_faults profile current sent =
    option_map_or (faults_against profile current sent) (page_with profile (sent_first sent))
    (sent.offset ∷ [])

-- Every fault of a list.
abbrev pub list_faults : (current : PageValues) (width : CdbWidth) (blocks : Option ℕ) → Profile → List ℕ
    → List ℕ
list_faults current width blocks profile list =
    header_faults width list
    ++ (descriptor_faults width blocks profile list
    ++ flat_map (page_faults profile current) (pages_in width list))

-- ---- The least offset decides

abbrev pub least : List ℕ → Option ℕ
least [] = None
least (offset ∷ offsets) = Some (option_map_or (min offset) (least offsets) offset)

-- A fault at the end of the list is a fault of the parameter list length.
abbrev pub fault_at : (list_length offset : ℕ) → ModeSelectFault
fault_at list_length offset = if nat_lt offset list_length then Field offset else Length

unfoldable pub first_fault : (list_length : ℕ) → (offsets : List ℕ) → Option ModeSelectFault
first_fault list_length offsets = option_map (fault_at list_length) (least offsets)

-- A value, unless there is a fault.
abbrev pub unless_fault : {A : Type 0} → Option ModeSelectFault → A → Result A ModeSelectFault
unless_fault None value = Ok value
unless_fault (Some fault) value = Err fault

-- ---- What a list changes

-- The bytes after the header of the last page sent that is this page.
-- Choice (SPC-4, 6.11): a page that is sent twice may be refused.
abbrev pub last_sent : ModePage → List Part → Option (List ℕ)
last_sent page sent =
    option_map (λ (p : Part). drop (page_header_length page) p.bytes)
    (find (λ p. sent_first p == first_byte page) (reverse sent))

-- A page that is not sent stays as it is.
abbrev pub values_after : (current : PageValues) → List Part → PageValues
values_after current sent =
    by_page (λ page. unwrap_or (last_sent page sent) (values_of current page))

-- The current values after a list, or its first fault. The empty list is accepted. `blocks` is the
-- number of blocks that the block descriptor has to have; with None the field is ignored.
unfoldable pub selected_values : (current : PageValues) (width : CdbWidth) (blocks : Option ℕ) → Profile
    → List ℕ → Result PageValues ModeSelectFault
selected_values current width blocks profile list =
    if length list == 0 then Ok current
    else
    unless_fault (first_fault (length list) (list_faults current width blocks profile list))
    (values_after current (pages_in width list))

-- With SP all pages are saved, sent or not.
abbrev pub saved_after : (save : Bool) → ModeState → PageValues → ModeState
saved_after save state current =
    record { current = current; saved = if save then current else state.saved }

-- The pages after a MODE SELECT, or the first fault of its list.
abbrev pub mode_select : ModeState → (list : List ℕ) (width : CdbWidth) (save : Bool) (blocks : Option ℕ)
    → Profile → Result ModeState ModeSelectFault
mode_select state list width save blocks profile =
    result_map_both (saved_after save state) (λ fault. fault)
    (selected_values state.current width blocks profile list)

-- A byte of a page differs.
abbrev pub differ : PageValues → PageValues → Bool
differ a b =
    not (bytes_eq a.error_recovery b.error_recovery
    && (bytes_eq a.caching b.caching
    && (bytes_eq a.control b.control
    && (bytes_eq a.exceptions_control b.exceptions_control && bytes_eq a.provisioning b.provisioning))))

-- A current byte differs afterwards.
abbrev pub changed_by : (before after : ModeState) → Changed
changed_by before after = record { 0 = differ after.current before.current }
