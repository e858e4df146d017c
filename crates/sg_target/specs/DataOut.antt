-- How much data-out a command needs, and what becomes of it with less.
use Rattle.std.specs.Prelude.{ℕ, List, Option, Some, if◌then◌else◌}
use Rattle.sg_wire.specs.Profile.{rules_of}
use Rattle.sg_wire.specs.declared.extent.Extent.{Extent}
use Rattle.sg_target.specs.BlockCommands.{bytes_of, past_capacity, whole_blocks}
use Rattle.sg_target.specs.Config.{ConfigFields}
use Rattle.sg_target.specs.declared.refusal.Reason.{Reason}
use Rattle.sg_target.specs.declared.refusal.Reason.TheVariants.{DataPhaseError}
use Rattle.sg_target.specs.declared.refusal.Reason.TheVariants.{InvalidInformationUnit}
use Rattle.sg_target.specs.declared.refusal.Refusal.{Refusal}
use Rattle.sg_target.specs.declared.refusal.Refusal.TheVariants.{CheckCondition}

-- The number of bytes of data-out that a command needs, and the refusal if there are fewer, if that
-- refuses it.
pub record DataOutNeed : Type 0 where
  pub bytes : ℕ
  pub if_short : Option Refusal

-- INVALID FIELD IN COMMAND INFORMATION UNIT, or DATA PHASE ERROR on a base disk.
abbrev pub short_reason : ConfigFields → Reason
short_reason config =
    if (rules_of config.identity.profile).short_data_out_is_illegal then InvalidInformationUnit
    else DataPhaseError

abbrev pub need : ConfigFields → (bytes : ℕ) → DataOutNeed
need config bytes =
    record { bytes = bytes; if_short = Some (CheckCondition (short_reason config)) }

-- A disk can take too little data-out of a WRITE, an ORWRITE or a VERIFY. Then the command goes over the
-- blocks that data-out has in full. Each block that its CDB names has to be on the disk even then.
abbrev pub blocks_need : ConfigFields → Extent → DataOutNeed
blocks_need config extent = record {
  bytes = bytes_of extent;
  if_short =
      if config.identity.takes_short_data_out then past_capacity config.blocks extent
      else Some (CheckCondition (short_reason config));
}

abbrev pub moved : ConfigFields → Extent → (data_out : List ℕ) → Extent
moved config extent data_out =
    if config.identity.takes_short_data_out then whole_blocks extent data_out else extent
