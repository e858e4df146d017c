-- PC of MODE SENSE: which values of the pages are requested (SPC-4, 6.13).
use Rattle.std.specs.Prelude.{ℕ, ◌==◌, List, [], ◌∷◌, find, Option, unwrap_or}
use Rattle.sg_wire.specs.declared.command.page_control.PageControl.{PageControl}
use Rattle.sg_wire.specs.declared.command.page_control.PageControl.TheVariants.{Current}
use Rattle.sg_wire.specs.declared.command.page_control.PageControl.TheVariants.{Changeable}
use Rattle.sg_wire.specs.declared.command.page_control.PageControl.TheVariants.{Default, Saved}

-- The code of each, in the PC field.
abbrev pub page_control_code : PageControl → ℕ
page_control_code Current = 0
page_control_code Changeable = 1
page_control_code Default = 2
page_control_code Saved = 3

abbrev pub each_page_control : List PageControl
each_page_control = Current ∷ Changeable ∷ Default ∷ Saved ∷ []

-- The values with a code.
abbrev pub page_control_with : (code : ℕ) → Option PageControl
page_control_with code = find (λ pc. code == page_control_code pc) each_page_control

-- The values that a PC field requests. The field has two bits, so it is one of the four codes.
abbrev pub page_control_of : (field : ℕ) → PageControl
page_control_of field = unwrap_or (page_control_with field) Saved
