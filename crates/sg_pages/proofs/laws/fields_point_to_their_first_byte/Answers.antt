use Rattle.std.proofs.Common.{◌≡◌, true, false, refl, Bool}
use Rattle.std.specs.List.{list_all}
use Rattle.sg_pages.specs.declared.mode_pages.mode_page.ModePage.{ModePage}
use Rattle.sg_pages.specs.declared.mode_pages.mode_page.ModePage.TheVariants.{ReadWriteErrorRecovery}
use Rattle.sg_pages.specs.declared.mode_pages.mode_page.ModePage.TheVariants.{Caching, Control}
use Rattle.sg_pages.specs.declared.mode_pages.mode_page.ModePage.TheVariants.{InformationalExceptionsControl}
use Rattle.sg_pages.specs.declared.mode_pages.mode_page.ModePage.TheVariants.{LogicalBlockProvisioning}
use Rattle.sg_pages.specs.BlockDescriptor.{descriptor_fields}
use Rattle.sg_pages.specs.ModeLaws.{points_to_first}
use Rattle.sg_pages.specs.ModePage.{row_of}
use Rattle.sg_pages.proofs.laws.fields_point_to_their_first_byte.Goals as goal

of-page : (page : ModePage)
    → list_all (points_to_first (row_of page).fields) (row_of page).fields ≡ true
of-page ReadWriteErrorRecovery = refl
of-page Caching = refl
of-page Control = refl
of-page InformationalExceptionsControl = refl
of-page LogicalBlockProvisioning = refl

of-descriptor : (long : Bool)
    → list_all (points_to_first (descriptor_fields long)) (descriptor_fields long) ≡ true
of-descriptor true = refl
of-descriptor false = refl

pub returns : goal.returns
returns c = (of-page, of-descriptor)
