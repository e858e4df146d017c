-- A command crosses a threshold of the pool (SBC-3, 4.7): THIN PROVISIONING SOFT THRESHOLD REACHED is
-- established.
use Rattle.std.specs.Prelude.{ℕ, Bool, if◌then◌else◌}
use Rattle.sg_pages.specs.Thresholds.{alerts_only_sender, crosses}
use Rattle.sg_pages.specs.declared.mode_pages.mode_page.PageValues.{PageValues}
use Rattle.sg_pages.specs.declared.provisioning_pages.MappingResources.{MappingResources}
use Rattle.sg_units.specs.Attentions.{Pending}
use Rattle.sg_units.specs.Initiators.{Members, all_initiators, no_initiators, with_member}
use Rattle.sg_units.specs.Raised.{raised_for_each, raised_for_members}
use Rattle.sg_units.specs.declared.unit_attention.UnitAttention.TheVariants.{SoftThresholdReached}
use Rattle.sg_target.specs.State.{State, profile_of, resources_of}

-- A command has crossed a threshold, by the pool before it and by what it has left.
abbrev pub has_crossed : (before : MappingResources) → (after : State) → Bool
has_crossed before after = crosses (profile_of after) after.modes.current before (resources_of after)

-- 38h/07h is established for the initiator whose command it was, if SITUA is 1, and otherwise for each one.
abbrev pub alerted_initiators : PageValues → (initiator : ℕ) → Members
alerted_initiators values initiator =
    if alerts_only_sender values then with_member no_initiators initiator else all_initiators

abbrev pub with_threshold_reached : State → (initiator : ℕ) → Pending
with_threshold_reached state initiator =
    raised_for_each state.attentions
    (raised_for_members (alerted_initiators state.modes.current initiator) SoftThresholdReached)

-- The state after a command with 38h/07h, if it has crossed a threshold. The command itself ends as it does
-- without thresholds.
abbrev pub alerted : (before : MappingResources) → (initiator : ℕ) → State → State
alerted before initiator after =
    record after {
      attentions =
          if has_crossed before after then with_threshold_reached after initiator else after.attentions;
    }
