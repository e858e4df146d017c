-- The mode pages of the disk (SPC-4, 7.5; SBC-3, 6.4).
use Rattle.std.specs.Prelude.{ℕ, ◌+◌, ◌==◌, Option, Bool, if◌then◌else◌}
use Rattle.std.specs.Prelude.{List, [], ◌∷◌, ◌++◌, length, slice_index, map, find, filter}
use Rattle.std.specs.List.{range_with_len}
use Rattle.std.specs.Option.{option_map_or}
use Rattle.byteorder.specs.Endian.{big_bytes}
use Rattle.sg_wire.specs.Bits.{has_bit}
use Rattle.sg_wire.specs.Profile.{is_in}
use Rattle.sg_wire.specs.declared.profile.Profile.{Profile}
use Rattle.sg_wire.specs.declared.profile.Profile.TheVariants.{Base, Extended}
use Rattle.sg_pages.specs.declared.mode_pages.mode_page.ModePage.{ModePage}
use Rattle.sg_pages.specs.declared.mode_pages.mode_page.ModePage.TheVariants.{ReadWriteErrorRecovery}
use Rattle.sg_pages.specs.declared.mode_pages.mode_page.ModePage.TheVariants.{Caching, Control}
use Rattle.sg_pages.specs.declared.mode_pages.mode_page.ModePage.TheVariants.{InformationalExceptionsControl}
use Rattle.sg_pages.specs.declared.mode_pages.mode_page.ModePage.TheVariants.{LogicalBlockProvisioning}
use Rattle.sg_pages.specs.declared.mode_pages.mode_page.PageValues.{PageValues}
use Rattle.sg_pages.specs.declared.mode_pages.multi_byte_field.MultiByteField.{MultiByteField}
use Rattle.sg_pages.specs.MultiByteField.{field}

-- ---- The table

-- The disks that have the page. PAGE CODE, SUBPAGE CODE and PAGE LENGTH; a page of SUBPAGE CODE 00h has no
-- such field. For each byte after the header, its default, and the bits that MODE SELECT may change, by
-- profile. Then the page's fields of more than one byte.
pub record PageRow : Type 0 where
  pub profile : Profile
  pub code : ℕ
  pub subpage : ℕ
  pub page_length : ℕ
  pub defaults : Profile → List ℕ
  pub changeable : Profile → List ℕ
  pub fields : List MultiByteField

-- A byte has the value that is named for it, and otherwise it is zero.
abbrev pub value_at : (named : List (ℕ × ℕ)) → (byte : ℕ) → ℕ
value_at named byte =
    option_map_or (λ (n : ℕ × ℕ). n.1) (find (λ (n : ℕ × ℕ). n.0 == byte) named) 0

-- `count` bytes from a byte on.
abbrev pub bytes_from : (first count : ℕ) → (named : List (ℕ × ℕ)) → List ℕ
bytes_from first count named = map (value_at named) (range_with_len first count)

-- A page of each disk, without a subpage code. Its values begin at byte 2, and are the same in both
-- profiles.
abbrev row : (code page_length : ℕ) → (defaults changeable : List (ℕ × ℕ)) → List MultiByteField
    → PageRow
row code page_length defaults changeable fields = record {
  profile = Base;
  code = code;
  subpage = 0x00;
  page_length = page_length;
  defaults = λ _. bytes_from 2 page_length defaults;
  changeable = λ _. bytes_from 2 page_length changeable;
  fields = fields;
}

-- Byte 7: LBPERE is bit 7. A base disk has no thresholds to report.
abbrev pub lbpere : ℕ
lbpere = 0x80

abbrev lbpere_of : Profile → ℕ
lbpere_of Base = 0x00
lbpere_of Extended = lbpere

-- Byte 2: AWRE is bit 7, ARRE is bit 6. Bytes 3 and 8: READ RETRY COUNT and WRITE RETRY COUNT.
-- From byte 10 on: RECOVERY TIME LIMIT.
-- Choice (SBC-3, 6.4): AWRE, ARRE and LBPERE may be 0.
abbrev error_recovery_row : PageRow
error_recovery_row = record (row 0x01 0x0A [] [] (field 10 2 ∷ [])) {
  defaults =
      λ profile. bytes_from 2 0x0A ((2, 0xC0) ∷ (3, 0x08) ∷ (7, lbpere_of profile) ∷ (8, 0x08) ∷ []);
  changeable =
      λ profile. bytes_from 2 0x0A ((2, 0xC0) ∷ (3, 0xFF) ∷ (7, lbpere_of profile) ∷ (8, 0xFF) ∷ []);
}

-- From byte 4 on: DISABLE PRE-FETCH TRANSFER LENGTH, MINIMUM PRE-FETCH, MAXIMUM PRE-FETCH and
-- MAXIMUM PRE-FETCH CEILING. From byte 14 on: CACHE SEGMENT SIZE. From byte 17 on: an obsolete field,
-- once NON CACHE SEGMENT SIZE.
abbrev caching_fields : List MultiByteField
caching_fields = field 4 2 ∷ field 6 2 ∷ field 8 2 ∷ field 10 2 ∷ field 14 2 ∷ field 17 3 ∷ []

abbrev wce : ℕ
wce = 0x04

-- Byte 2: WCE is bit 2.
-- Choice (SBC-3, 6.4): WCE may be 0.
abbrev caching_row : PageRow
caching_row = row 0x08 0x12 ((2, wce) ∷ []) ((2, wce) ∷ []) caching_fields

-- Byte 2: D_SENSE is bit 2. Byte 4: SWP is bit 3.
abbrev d_sense : ℕ
d_sense = 0x04

abbrev swp : ℕ
swp = 0x08

-- From byte 6 on: an obsolete field, once READY AER HOLDOFF PERIOD; BUSY TIMEOUT PERIOD; EXTENDED
-- SELF-TEST COMPLETION TIME.
abbrev control_row : PageRow
control_row =
    row 0x0A 0x0A [] ((2, d_sense) ∷ (4, swp) ∷ []) (field 6 2 ∷ field 8 2 ∷ field 10 2 ∷ [])

-- Byte 2: DEXCPT is bit 3. From byte 4 on: INTERVAL TIMER and REPORT COUNT.
abbrev exceptions_row : PageRow
exceptions_row = row 0x1C 0x0A ((2, 0x08) ∷ []) [] (field 4 4 ∷ field 8 4 ∷ [])

-- Bits of page 1Ch/02h. SITUA is in byte 4, and ENABLED in the first byte of a threshold descriptor.
abbrev pub situa : ℕ
situa = 0x01

abbrev pub enabled : ℕ
enabled = 0x80

-- The two threshold descriptors begin at bytes 16 and 24. THRESHOLD TYPE, in their first bytes, is 0, a
-- soft threshold. THRESHOLD ARMING is there, too: 0, a number that falls, and 1, a number that rises.
-- THRESHOLD RESOURCE, in their second bytes, is 01h, the blocks of the pool that are left, and 02h, the
-- used ones. From bytes 2, 20 and 28 on: PAGE LENGTH, and THRESHOLD COUNT of each descriptor.
-- Choice (SBC-3, 6.4): other thresholds may be supported, and more of them.
abbrev provisioning_row : PageRow
provisioning_row = record {
  profile = Extended;
  code = 0x1C;
  subpage = 0x02;
  page_length = 0x1C;
  defaults = λ _. bytes_from 4 0x1C ((17, 0x01) ∷ (24, 0x01) ∷ (25, 0x02) ∷ []);
  changeable = λ _. bytes_from 4 0x1C
      ((4, situa) ∷ (16, enabled) ∷ (20, 0xFF) ∷ (21, 0xFF) ∷ (22, 0xFF) ∷ (23, 0xFF)
      ∷ (24, enabled) ∷ (28, 0xFF) ∷ (29, 0xFF) ∷ (30, 0xFF) ∷ (31, 0xFF) ∷ []);
  fields = field 2 2 ∷ field 20 4 ∷ field 28 4 ∷ [];
}

abbrev pub row_of : ModePage → PageRow
row_of ReadWriteErrorRecovery = error_recovery_row
row_of Caching = caching_row
row_of Control = control_row
row_of InformationalExceptionsControl = exceptions_row
row_of LogicalBlockProvisioning = provisioning_row

-- In ascending order of their codes.
abbrev pub each_page : List ModePage
each_page =
    ReadWriteErrorRecovery
    ∷ Caching
    ∷ Control
    ∷ InformationalExceptionsControl
    ∷ LogicalBlockProvisioning
    ∷ []

abbrev pub code_of : ModePage → ℕ
code_of page = (row_of page).code

abbrev pub subpage_of : ModePage → ℕ
subpage_of page = (row_of page).subpage

abbrev pub page_length : ModePage → ℕ
page_length page = (row_of page).page_length

abbrev pub has_page : Profile → ModePage → Bool
has_page profile page = is_in (row_of page).profile profile

abbrev pub pages_of : Profile → List ModePage
pages_of profile = filter (has_page profile) each_page

-- ---- The header of a page (SPC-4, 7.5)

-- PS and SPF, bits of its first byte: the page can be saved, and it has a SUBPAGE CODE.
abbrev pub parameters_saveable : ℕ
parameters_saveable = 0x80

abbrev pub subpage_format : ℕ
subpage_format = 0x40

-- SPF and PAGE CODE, the first byte without PS.
abbrev pub first_byte : ModePage → ℕ
first_byte page =
    if subpage_of page == 0x00 then code_of page else subpage_format + code_of page

-- The page with such a first byte, if a disk of the profile has it.
abbrev pub page_with : Profile → (first : ℕ) → Option ModePage
page_with profile first = find (λ page. first_byte page == first) (pages_of profile)

-- PS, because each page can be saved, SPF and PAGE CODE. Then PAGE LENGTH in a byte; with SPF, SUBPAGE CODE
-- and PAGE LENGTH in two bytes.
abbrev pub page_header : ModePage → List ℕ
page_header page =
    (parameters_saveable + first_byte page)
    ∷ (if subpage_of page == 0x00 then page_length page ∷ []
    else subpage_of page ∷ big_bytes 2 (page_length page))

abbrev pub page_header_length : ModePage → ℕ
page_header_length page = length (page_header page)

-- ---- The bytes of the pages

-- The bytes of a page after its header.
abbrev pub values_of : PageValues → ModePage → List ℕ
values_of values ReadWriteErrorRecovery = values.error_recovery
values_of values Caching = values.caching
values_of values Control = values.control
values_of values InformationalExceptionsControl = values.exceptions_control
values_of values LogicalBlockProvisioning = values.provisioning

-- The bytes that a rule gives for each page.
abbrev pub by_page : (ModePage → List ℕ) → PageValues
by_page rule = record {
  error_recovery = rule ReadWriteErrorRecovery;
  caching = rule Caching;
  control = rule Control;
  exceptions_control = rule InformationalExceptionsControl;
  provisioning = rule LogicalBlockProvisioning;
}

unfoldable pub default_values : Profile → PageValues
default_values profile = by_page (λ page. (row_of page).defaults profile)

abbrev pub changeable_bits : Profile → PageValues
changeable_bits profile = by_page (λ page. (row_of page).changeable profile)

-- A whole page.
unfoldable pub page_bytes : ModePage → (values : List ℕ) → List ℕ
page_bytes page values = page_header page ++ values

abbrev pub page_data : PageValues → ModePage → List ℕ
page_data values page = page_bytes page (values_of values page)

-- ---- What a disk keeps of them

-- The current values and the saved ones. The default values and the changeable bits never change.
-- Choice (SPC-4, 7.5): each initiator may have values of its own.
pub record ModeState : Type 0 where
  pub current : PageValues
  pub saved : PageValues

-- A byte, by its number in the page.
abbrev pub byte_2 : List ℕ → ℕ
byte_2 values = slice_index values 0

abbrev pub byte_4 : List ℕ → ℕ
byte_4 values = slice_index values 2

-- WCE of the caching page: a write may end before it is on the medium (SBC-3, Caching mode page).
abbrev pub caches_writes : ModeState → Bool
caches_writes state = has_bit (byte_2 (values_of state.current Caching)) wce

-- D_SENSE of the control page: sense data is in descriptor format (SPC-4, Control mode page).
abbrev pub descriptor_sense : ModeState → Bool
descriptor_sense state = has_bit (byte_2 (values_of state.current Control)) d_sense

-- SWP of the control page: the disk refuses to write (SPC-4, Control mode page).
abbrev pub write_protected : ModeState → Bool
write_protected state = has_bit (byte_4 (values_of state.current Control)) swp

-- ---- Cited only by private contracts
