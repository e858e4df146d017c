use Rattle.std.proofs.Common.{◌≡◌, false, Result, Ok, Err}
use Rattle.std.specs.Result.{result_map_both}
use Rattle.sg_pages.specs.ModePage.{ModeState}
use Rattle.sg_pages.specs.ModeSelect.{saved_after, selected_values}
use Rattle.sg_pages.specs.declared.mode_pages.mode_page.PageValues.{PageValues}
use Rattle.sg_pages.specs.declared.mode_pages.mode_select.ModeSelectFault.{ModeSelectFault}
use Rattle.sg_pages.proofs.laws.only_sp_saves.Goals as goal

stays : (before after : ModeState) (selected : Result PageValues ModeSelectFault)
    → result_map_both (saved_after false before) (λ fault. fault) selected ≡ Ok after
    → after.saved ≡ before.saved
stays before after (Ok current) e = cc
stays before after (Err fault) e = cc

pub returns : goal.returns
returns c before after list width blocks profile e =
    stays before after (selected_values before.current width blocks profile list) e
