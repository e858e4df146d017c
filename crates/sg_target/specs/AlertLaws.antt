-- A law of thresholds: 38h/07h is established exactly if a command has crossed one, for whom SITUA says.
use Rattle.std.specs.Prelude.{◌≡◌, ◌≢◌, ◌<◌, ℕ, false, Bool, not, ◌&&◌, ◌||◌, ◌==◌}
use Rattle.sg_wire.specs.Initiator.{initiator_count}
use Rattle.sg_pages.specs.Thresholds.{alerts_only_sender}
use Rattle.sg_pages.specs.declared.provisioning_pages.MappingResources.{MappingResources}
use Rattle.sg_units.specs.Attentions.{is_pending, pending_for}
use Rattle.sg_units.specs.UnitAttention.{number_of}
use Rattle.sg_units.specs.declared.unit_attention.UnitAttention.{UnitAttention}
use Rattle.sg_units.specs.declared.unit_attention.UnitAttention.TheVariants.{SoftThresholdReached}
use Rattle.sg_target.specs.Alerts.{alerted, has_crossed}
use Rattle.sg_target.specs.State.{State}

-- A condition is pending for an initiator.
abbrev pub has_pending : State → (initiator : ℕ) → UnitAttention → Bool
has_pending state initiator condition = is_pending (pending_for state.attentions initiator) condition

-- A sender's command has crossed a threshold, and an initiator gets 38h/07h: each one, or with SITUA 1 the
-- sender.
abbrev pub is_alerted :
    (before : MappingResources) → (sender : ℕ) → (after : State) → (initiator : ℕ) → Bool
is_alerted before sender after initiator =
    has_crossed before after && (not (alerts_only_sender after.modes.current) || sender == initiator)

-- If 38h/07h is not pending for an initiator, it is pending after the command exactly if the initiator gets
-- it. No other condition is established or cleared.
pub record CrossingsAreReported : Type 0 where
  pub reported : (before : MappingResources) (sender initiator : ℕ) (after : State)
      → sender < initiator_count → initiator < initiator_count
      → has_pending after initiator SoftThresholdReached ≡ false
      → has_pending (alerted before sender after) initiator SoftThresholdReached
      ≡ is_alerted before sender after initiator
  pub others : (before : MappingResources) (sender initiator : ℕ) (after : State)
      (condition : UnitAttention) → initiator < initiator_count
      → number_of condition ≢ number_of SoftThresholdReached
      → has_pending (alerted before sender after) initiator condition
      ≡ has_pending after initiator condition
