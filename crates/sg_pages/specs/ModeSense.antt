-- The mode parameter list that MODE SENSE returns (SPC-4, 7.5).
use Rattle.std.specs.Prelude.{ℕ, ◌+◌, List, [], ◌∷◌, ◌++◌, length, Result, Ok, Err}
use Rattle.std.specs.Prelude.{Bool, not, ◌&&◌, ◌||◌, ◌==◌, if◌then◌else◌}
use Rattle.std.specs.List.{flat_map, list_any}
use Rattle.byteorder.specs.Endian.{big_bytes}
use Rattle.sg_wire.specs.declared.command.mode.CdbWidth.{CdbWidth}
use Rattle.sg_wire.specs.declared.command.mode.CdbWidth.TheVariants.{Six, Ten}
use Rattle.sg_wire.specs.declared.command.mode.PageRequest.{PageRequest}
use Rattle.sg_wire.specs.declared.profile.Profile.{Profile}
use Rattle.sg_wire.specs.declared.command.page_control.PageControl.{PageControl}
use Rattle.sg_wire.specs.declared.command.page_control.PageControl.TheVariants.{Current}
use Rattle.sg_wire.specs.declared.command.page_control.PageControl.TheVariants.{Changeable}
use Rattle.sg_wire.specs.declared.command.page_control.PageControl.TheVariants.{Default, Saved}
use Rattle.sg_pages.specs.declared.mode_pages.mode_page.ModePage.{ModePage}
use Rattle.sg_pages.specs.declared.mode_pages.mode_page.PageValues.{PageValues}
use Rattle.sg_pages.specs.declared.mode_pages.request.ModeSenseRequest.{ModeSenseRequest}
use Rattle.sg_pages.specs.declared.mode_pages.request.ModeSenseFault.{ModeSenseFault}
use Rattle.sg_pages.specs.declared.mode_pages.request.ModeSenseFault.TheVariants.{Page, Subpage}
use Rattle.sg_pages.specs.ModePage.{ModeState, each_page, code_of, subpage_of, has_page, page_data}
use Rattle.sg_pages.specs.ModePage.{default_values, changeable_bits, write_protected}
use Rattle.sg_pages.specs.BlockDescriptor.{block_descriptor}

-- The request of a MODE SENSE: the width of its CDB, LLBAA, the pages, and the number of blocks and the
-- profile of the disk.
pub record RequestFields : Type 0 where
  pub width : CdbWidth
  pub llbaa : Bool
  pub page : PageRequest
  pub blocks : ℕ
  pub profile : Profile

-- The fields of a request, without the fact that its type keeps.
abbrev pub fields_of : ModeSenseRequest → RequestFields
fields_of r = record {
  width = r.width;
  llbaa = r.llbaa;
  page = r.page;
  blocks = r.blocks;
  profile = r.profile;
}

-- ---- The pages

-- The values that PC selects.
abbrev pub selected_by : ModeState → Profile → PageControl → PageValues
selected_by state profile Current = state.current
selected_by state profile Changeable = changeable_bits profile
selected_by state profile Default = default_values profile
selected_by state profile Saved = state.saved

-- PAGE CODE 3Fh requests all pages.
abbrev pub has_code : (page_code : ℕ) → ModePage → Bool
has_code page_code page = page_code == 0x3F || page_code == code_of page

-- SUBPAGE CODE 00h requests pages without a subpage code, FFh those with one, too, and another one a page
-- of its own. With PAGE CODE 3Fh only 00h and FFh request a page.
abbrev pub has_subpage_code : PageRequest → ModePage → Bool
has_subpage_code asked page =
    asked.subpage_code == 0xFF
    || asked.subpage_code == subpage_of page && (asked.subpage_code == 0x00 || not (asked.page_code == 0x3F))

abbrev pub is_requested : Profile → PageRequest → ModePage → Bool
is_requested profile asked page =
    has_page profile page && (has_code asked.page_code page && has_subpage_code asked page)

-- The requested pages, joined.
unfoldable pub requested_pages : PageValues → Profile → PageRequest → List ℕ
requested_pages values profile asked =
    flat_map (λ page. if is_requested profile asked page then page_data values page else []) each_page

-- ---- The header and the block descriptor

-- LONGLBA: the block descriptor is the long one. DBD leaves the descriptor out.
abbrev pub is_long : RequestFields → Bool
is_long r = r.llbaa && not r.page.dbd

abbrev pub descriptor_data : RequestFields → List ℕ
descriptor_data r = if r.page.dbd then [] else block_descriptor (is_long r) r.blocks

-- Bits of DEVICE-SPECIFIC PARAMETER (SBC-3, 6.4.1). WP, bit 7: the medium is write protected.
-- DPOFUA, bit 4: the disk supports DPO and FUA.
abbrev pub wp : ℕ
wp = 0x80

-- Choice (SBC-3, 6.4.1): DPOFUA may be 0.
abbrev pub dpofua : ℕ
dpofua = 0x10

-- DEVICE-SPECIFIC PARAMETER: DPOFUA, and WP if SWP is set.
abbrev pub device_specific : ModeState → ℕ
device_specific state = if write_protected state then wp + dpofua else dpofua

-- Only the header of MODE SENSE(10) has LONGLBA and a reserved byte. Its two lengths have two bytes
-- each. The two lengths of MODE SENSE(6) have one byte each.
abbrev pub longlba_bytes : CdbWidth → (long : Bool) → List ℕ
longlba_bytes Six long = []
longlba_bytes Ten long = (if long then 0x01 else 0x00) ∷ 0x00 ∷ []

abbrev pub length_bytes : CdbWidth → ℕ → List ℕ
length_bytes Six length = length ∷ []
length_bytes Ten length = big_bytes 2 length

-- The header after MODE DATA LENGTH: MEDIUM TYPE, DEVICE-SPECIFIC PARAMETER, LONGLBA, and BLOCK
-- DESCRIPTOR LENGTH.
abbrev pub header_after_length : ModeState → RequestFields → (descriptor_length : ℕ) → List ℕ
header_after_length state r descriptor_length =
    (0x00 ∷ device_specific state ∷ [])
    ++ (longlba_bytes r.width (is_long r) ++ length_bytes r.width descriptor_length)

-- ---- The whole list

-- All that follows MODE DATA LENGTH.
unfoldable pub list_after_length : ModeState → RequestFields → List ℕ
list_after_length state r =
    let pages = requested_pages (selected_by state r.profile r.page.page_control) r.profile r.page in
    header_after_length state r (length (descriptor_data r)) ++ (descriptor_data r ++ pages)

-- MODE DATA LENGTH is the number of bytes that follow it.
unfoldable pub mode_parameter_list : ModeState → RequestFields → List ℕ
mode_parameter_list state r =
    let following = list_after_length state r in
    length_bytes r.width (length following) ++ following

-- The list, or the first field of the CDB that requests something that the disk does not have: no page has
-- PAGE CODE, or none of those has SUBPAGE CODE.
abbrev pub mode_sense : ModeState → RequestFields → Result (List ℕ) ModeSenseFault
mode_sense state r =
    if not (list_any (λ page. has_page r.profile page && has_code r.page.page_code page) each_page)
    then Err Page
    else
    if not (list_any (is_requested r.profile r.page) each_page) then Err Subpage
    else Ok (mode_parameter_list state r)
