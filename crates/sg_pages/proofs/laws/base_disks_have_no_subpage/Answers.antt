use Rattle.std.proofs.Common.{◌≡◌, true, refl}
use Rattle.sg_wire.specs.declared.profile.Profile.TheVariants.{Base}
use Rattle.sg_pages.specs.declared.mode_pages.mode_page.ModePage.{ModePage}
use Rattle.sg_pages.specs.declared.mode_pages.mode_page.ModePage.TheVariants.{ReadWriteErrorRecovery}
use Rattle.sg_pages.specs.declared.mode_pages.mode_page.ModePage.TheVariants.{Caching, Control}
use Rattle.sg_pages.specs.declared.mode_pages.mode_page.ModePage.TheVariants.{InformationalExceptionsControl}
use Rattle.sg_pages.specs.declared.mode_pages.mode_page.ModePage.TheVariants.{LogicalBlockProvisioning}
use Rattle.sg_pages.specs.ModePage.{has_page, subpage_of}
use Rattle.sg_pages.proofs.laws.base_disks_have_no_subpage.Goals as goal

none : (page : ModePage) → has_page Base page ≡ true → subpage_of page ≡ 0x00
none ReadWriteErrorRecovery h = refl
none Caching h = refl
none Control h = refl
none InformationalExceptionsControl h = refl
none LogicalBlockProvisioning h = cc

pub returns : goal.returns
returns c = none
