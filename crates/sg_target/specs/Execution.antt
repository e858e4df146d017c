-- A target executes a command: it answers as the definition's step does, and becomes what it says.
use Rattle.std.specs.Prelude.{◌≡◌, ℕ, List}
use Rattle.sg_target.specs.Armed.{Armed, armed_step}
use Rattle.sg_target.specs.Reply.{CarriesStep}
use Rattle.sg_target.specs.Demands.{data_out_length}
use Rattle.sg_target.specs.State.{IsWithinLimits, config_of}
use Rattle.sg_target.specs.declared.reply.Reply.{Reply}

-- A target executes a CDB of an initiator, with its data-out.
pub record IsExecuted (initiator : ℕ) (cdb data_out : List ℕ) (old new : Armed)
    (reply : Reply) (buffer buffer' : List ℕ) : Type 0 where
  -- the reply and the buffer have the step's status, sense data and data-in
  pub answer : CarriesStep (armed_step old initiator cdb data_out) reply buffer buffer'
  -- it says how much data-out the CDB asks for
  pub asked : reply.data_out ≡ data_out_length (config_of old.state) cdb
  -- the state and the armed faults afterwards are the step's
  pub after : new ≡ (armed_step old initiator cdb data_out).after
  -- no table passes its limit
  pub limits : IsWithinLimits new.state
