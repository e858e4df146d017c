-- Laws of the mode pages, in the subject's words.
use Rattle.std.specs.Prelude.{◌≡◌, ℕ, List, [], Bool, true, false, Ok, Option, Some, ◌<◌, ◌==◌, ⊤}
use Rattle.std.specs.List.{list_all, range_with_len}
use Rattle.sg_wire.specs.declared.command.mode.CdbWidth.{CdbWidth}
use Rattle.sg_wire.specs.declared.profile.Profile.{Profile}
use Rattle.sg_wire.specs.declared.profile.Profile.TheVariants.{Base}
use Rattle.sg_pages.specs.declared.mode_pages.mode_page.ModePage.{ModePage}
use Rattle.sg_pages.specs.ModePage.{ModeState, first_byte, has_page, page_header_length, page_with}
use Rattle.sg_pages.specs.ModePage.{row_of, subpage_of, values_of}
use Rattle.sg_pages.specs.declared.mode_pages.multi_byte_field.MultiByteField.{MultiByteField}
use Rattle.sg_pages.specs.BlockDescriptor.{descriptor_fields}
use Rattle.sg_pages.specs.MultiByteField.{first_byte_of}
use Rattle.sg_pages.specs.ModeSelect.{Part, differences, field_faults, mode_select, part_faults}
use Rattle.sg_pages.specs.declared.mode_pages.mode_select.ModeSelectFault.{ModeSelectFault}
use Rattle.sg_pages.specs.declared.mode_pages.mode_select.ModeSelectFault.TheVariants.{Length}
use Rattle.sg_pages.specs.declared.mode_pages.mode_select.ModeSelectFault.TheVariants.{Field}

-- A byte that is at fault is one of the list.
abbrev pub IsInside : (list_length : ℕ) → ModeSelectFault → Type 0
IsInside list_length Length = ⊤
IsInside list_length (Field offset) = offset < list_length

-- A MODE SELECT changes only bits that can be changed: after the header, no byte of a page differs in
-- another bit.
abbrev pub OnlyChangeableBitsChange : Type 0
OnlyChangeableBitsChange =
    (before after : ModeState) (list : List ℕ) (width : CdbWidth) (save : Bool) (blocks : Option ℕ)
    (profile : Profile) (page : ModePage)
    → mode_select before list width save blocks profile ≡ Ok after
    → differences (page_header_length page) (values_of before.current page) ((row_of page).changeable profile)
    (values_of after.current page)
    ≡ []

-- A MODE SELECT without SP leaves the saved values as they are.
abbrev pub OnlySpSaves : Type 0
OnlySpSaves =
    (before after : ModeState) (list : List ℕ) (width : CdbWidth) (blocks : Option ℕ)
    (profile : Profile) → mode_select before list width false blocks profile ≡ Ok after
    → after.saved ≡ before.saved

-- A MODE SELECT with SP saves the current values of all pages, as they are afterwards.
abbrev pub SpSavesAll : Type 0
SpSavesAll =
    (before after : ModeState) (list : List ℕ) (width : CdbWidth) (blocks : Option ℕ)
    (profile : Profile) → mode_select before list width true blocks profile ≡ Ok after
    → after.saved ≡ after.current

-- A base disk has no page with a subpage code.
abbrev pub BaseDisksHaveNoSubpage : Type 0
BaseDisksHaveNoSubpage = (page : ModePage) → has_page Base page ≡ true → subpage_of page ≡ 0x00

-- MODE SELECT finds each page of a disk by its SPF and PAGE CODE.
abbrev pub EachPageIsFound : Type 0
EachPageIsFound =
    (profile : Profile) (page : ModePage) → has_page profile page ≡ true
    → page_with profile (first_byte page) ≡ Some page

-- On a base disk each byte is a field of its own: a pointer goes to the byte that differs.
abbrev pub BytesPointToThemselves : Type 0
BytesPointToThemselves =
    (expected ignored : List ℕ) (p : Part)
    → field_faults [] expected ignored p ≡ part_faults expected ignored p

-- On an extended disk each byte of a field of several bytes points to the field's first byte.
abbrev pub points_to_first : (fields : List MultiByteField) → MultiByteField → Bool
points_to_first fields field =
    list_all (λ byte. first_byte_of fields byte == field.first)
    (range_with_len field.first field.size)

abbrev pub FieldsPointToTheirFirstByte : Type 0
FieldsPointToTheirFirstByte =
    ((page : ModePage)
    → list_all (points_to_first (row_of page).fields) (row_of page).fields ≡ true)
    × ((long : Bool)
    → list_all (points_to_first (descriptor_fields long)) (descriptor_fields long) ≡ true)
