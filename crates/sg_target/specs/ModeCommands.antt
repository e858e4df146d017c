-- The effects of MODE SENSE and MODE SELECT (SPC-4, 6.11 to 6.14).
use Rattle.std.specs.Prelude.{ℕ, ◌==◌, ◌&&◌, ◌||◌, List, Bool, if◌then◌else◌, Option, Some, None}
use Rattle.std.specs.Prelude.{Result}
use Rattle.sg_pages.specs.ModePage.{ModeState}
use Rattle.sg_pages.specs.ModeSelect.{changed_by, mode_select}
use Rattle.sg_pages.specs.ModeSense.{RequestFields, mode_sense}
use Rattle.sg_pages.specs.declared.mode_pages.mode_select.ModeSelectFault.{ModeSelectFault}
use Rattle.sg_pages.specs.declared.mode_pages.mode_select.ModeSelectFault.TheVariants.{Length, Field}
use Rattle.sg_pages.specs.declared.mode_pages.request.ModeSenseFault.{ModeSenseFault}
use Rattle.sg_pages.specs.declared.mode_pages.request.ModeSenseFault.TheVariants.{Page, Subpage}
use Rattle.sg_wire.specs.Profile.{rules_of}
use Rattle.sg_wire.specs.declared.command.mode.CdbWidth.{CdbWidth}
use Rattle.sg_wire.specs.declared.profile.Rules.{Rules}
use Rattle.sg_units.specs.Attentions.{Pending}
use Rattle.sg_units.specs.Raised.{raised_for_each, raised_for_others}
use Rattle.sg_units.specs.declared.unit_attention.UnitAttention.TheVariants.{ModeParametersChanged}
use Rattle.sg_target.specs.Effect.{Effect, no_effect}
use Rattle.sg_target.specs.Refusal.{or_refused}
use Rattle.sg_target.specs.State.{State, profile_of}
use Rattle.sg_target.specs.declared.refusal.Reason.TheVariants.{InvalidFieldInCdb}
use Rattle.sg_target.specs.declared.refusal.Reason.TheVariants.{InvalidFieldInParameterList}
use Rattle.sg_target.specs.declared.refusal.Reason.TheVariants.{ParameterListLengthError}
use Rattle.sg_target.specs.declared.refusal.Refusal.{Refusal}
use Rattle.sg_target.specs.declared.refusal.Refusal.TheVariants.{CheckCondition}

-- ---- MODE SENSE

-- A page or a subpage that the disk does not have is an invalid field. PAGE CODE is in byte 2, and
-- SUBPAGE CODE is byte 3.
abbrev pub sense_refusal : ModeSenseFault → Refusal
sense_refusal Page = CheckCondition (InvalidFieldInCdb 2)
sense_refusal Subpage = CheckCondition (InvalidFieldInCdb 3)

-- The mode parameter list that is requested, or the refusal.
unfoldable pub mode_parameters : ModeState → RequestFields → Result (List ℕ) Refusal
mode_parameters modes request = or_refused sense_refusal (mode_sense modes request)

-- ---- MODE SELECT

-- Its parameter list ends early, or a byte of it has a value that is not supported.
abbrev pub select_refusal : ModeSelectFault → Refusal
select_refusal Length = CheckCondition ParameterListLengthError
select_refusal (Field byte) = CheckCondition (InvalidFieldInParameterList byte)

-- The number of blocks that a block descriptor has to have, if any.
abbrev pub required_blocks : Rules → (capacity : ℕ) → Option ℕ
required_blocks rules capacity = if rules.ignores_number_of_blocks then None else Some capacity

-- The mode pages after a parameter list, or the refusal. With SP all of them are saved.
unfoldable pub selected_modes : State → CdbWidth → (sp : Bool) → (list : List ℕ)
    → Result ModeState Refusal
selected_modes state width sp list =
    let profile = profile_of state in
    or_refused select_refusal
    (mode_select state.modes list width sp (required_blocks (rules_of profile) state.disk.capacity) profile)

-- If a current value has changed, MODE PARAMETERS CHANGED is established for every other initiator.
abbrev pub attentions_after : Pending → (initiator : ℕ) → (changed : Bool) → Pending
attentions_after attentions initiator changed =
    if changed then raised_for_each attentions (raised_for_others initiator ModeParametersChanged)
    else attentions

-- The mode pages become other ones.
abbrev pub changing_modes : State → (initiator : ℕ) → ModeState → Effect
changing_modes state initiator modes = let changed = (changed_by state.modes modes).0 in
    record (no_effect state) {
      after =
          record state {
            modes = modes;
            attentions = attentions_after state.attentions initiator changed;
          };
    }

-- A parameter list in another format than the standard's is not supported: PF, in byte 1, has to be
-- set. Without a list PF does not matter if the profile says so.
-- Choice (SPC-4, 6.11): with PF 0 pages of the vendor may be sent.
abbrev pub bad_page_format : Rules → (pf : Bool) → (list_length : ℕ) → Option ℕ
bad_page_format rules pf list_length =
    if pf || rules.select_of_nothing_ignores_page_format && list_length == 0 then None else Some 1
