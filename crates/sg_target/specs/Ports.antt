-- What a transport tells the disk of its initiators' ports.
use Rattle.std.specs.Prelude.{◌≡◌, ℕ}
use Rattle.sg_units.specs.Attentions.{without_attentions}
use Rattle.sg_target.specs.State.{IsWithinLimits, State}
use Rattle.sg_target.specs.Target.{TargetFields}

-- An initiator's port is gone. No unit attention is pending for the next port that has its number.
-- Registrations and reservation are as they were: they outlive the loss of an I_T nexus (SPC-4,
-- 5.13).
abbrev pub after_port_gone : State → (initiator : ℕ) → State
after_port_gone state initiator =
    record state { attentions = without_attentions state.attentions initiator }

-- A target forgets an initiator's port. The counts of the target's store stay.
pub record Forgets (initiator : ℕ) (old new : TargetFields) : Type 0 where
  pub state : new.state ≡ after_port_gone old.state initiator
  pub faults : new.faults ≡ old.faults
  pub meter : new.meter ≡ old.meter
  -- no table passes its limit
  pub limits : IsWithinLimits new.state
