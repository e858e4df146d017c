use Rattle.std.proofs.Common.{◌≡◌, true, Result, Ok, Err}
use Rattle.std.specs.Result.{result_map_both}
use Rattle.sg_pages.specs.ModePage.{ModeState}
use Rattle.sg_pages.specs.ModeSelect.{saved_after, selected_values}
use Rattle.sg_pages.specs.declared.mode_pages.mode_page.PageValues.{PageValues}
use Rattle.sg_pages.specs.declared.mode_pages.mode_select.ModeSelectFault.{ModeSelectFault}
use Rattle.sg_pages.proofs.laws.sp_saves_all.Goals as goal

saves : (before after : ModeState) (selected : Result PageValues ModeSelectFault)
    → result_map_both (saved_after true before) (λ fault. fault) selected ≡ Ok after
    → after.saved ≡ after.current
saves before after (Ok current) e = cc
saves before after (Err fault) e = cc

pub returns : goal.returns
returns c before after list width blocks profile e =
    saves before after (selected_values before.current width blocks profile list) e
