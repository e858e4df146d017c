-- A page that MODE SELECT sent: the values of the mode pages after it, and where its fault points.
use Rattle.std.specs.Prelude.{ℕ, ◌==◌, if◌then◌else◌, List, drop}
use Rattle.sg_pages.specs.declared.mode_pages.mode_page.ModePage.{ModePage}
use Rattle.sg_pages.specs.declared.mode_pages.mode_page.PageValues.{PageValues}
use Rattle.sg_pages.specs.declared.mode_pages.mode_select.ModeSelectFault.{ModeSelectFault}
use Rattle.sg_pages.specs.declared.mode_pages.mode_select.ModeSelectFault.TheVariants.{Length, Field}
use Rattle.sg_pages.specs.declared.mode_pages.multi_byte_field.MultiByteField.{MultiByteField}
use Rattle.sg_pages.specs.MultiByteField.{first_byte_in}
use Rattle.sg_pages.specs.ModePage.{by_page, first_byte, page_header_length, values_of}
use Rattle.sg_pages.specs.ModeSelect.{Part, sent_first}

-- The values after one more page that is sent.
abbrev pub with_sent : PageValues → Part → PageValues
with_sent values sent =
    let value = λ (page : ModePage).
    if sent_first sent == first_byte page then drop (page_header_length page) sent.bytes
    else values_of values page in
    by_page value

-- The values with other bytes for a page.
abbrev pub with_values : PageValues → ModePage → List ℕ → PageValues
with_values values changed bytes =
    by_page (λ page. if first_byte changed == first_byte page then bytes else values_of values page)

-- The fault of a part that starts at an offset, if a byte that differs points to the first byte of
-- its field.
abbrev pub pointed_fault : (fields : List MultiByteField) (start : ℕ) → ModeSelectFault → ModeSelectFault
pointed_fault fields start Length = Length
pointed_fault fields start (Field byte) = Field (first_byte_in fields start byte)
