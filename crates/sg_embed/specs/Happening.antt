-- What happens to a disk, by the record that C passes.
use Rattle.std.specs.Prelude.{ℕ, List, [], ◌∷◌, Option, Some, None, Result, Ok, Err, nat_lt}
use Rattle.std.specs.Prelude.{if◌then◌else◌, slice_index_or}
use Rattle.sg_wire.specs.Initiator.{initiator_count}
use Rattle.sg_faults.specs.Faults.{max_faults}
use Rattle.sg_faults.specs.declared.fault.Fault.{Fault}
use Rattle.sg_store.specs.Disk.{max_capacity}
use Rattle.sg_units.specs.Initiators.{Members}
use Rattle.sg_units.specs.UnitAttention.{condition_with}
use Rattle.sg_units.specs.declared.unit_attention.UnitAttention.{UnitAttention}
use Rattle.sg_target.specs.Config.{is_between}
use Rattle.sg_target.specs.declared.happening.Happening.{Happening}
use Rattle.sg_target.specs.declared.happening.Happening.TheVariants.{Power, LogicalUnitReset}
use Rattle.sg_target.specs.declared.happening.Happening.TheVariants.{TargetReset, NexusLoss}
use Rattle.sg_target.specs.declared.happening.Happening.TheVariants.{Establish, Grow}
use Rattle.sg_target.specs.declared.happening.Happening.TheVariants.{Arm, Disarm, DisarmAll}
use Rattle.sg_embed.specs.Fault.{asked_fault, own_initiators}
use Rattle.sg_embed.specs.Served.{initiators_of}
use Rattle.sg_embed.specs.declared.happening.HappeningRecord.{HappeningRecord}
use Rattle.sg_embed.specs.declared.kept.Kept.{Kept}
use Rattle.sg_embed.specs.declared.outcome.Outcome.{Outcome}
use Rattle.sg_embed.specs.declared.outcome.Outcome.TheVariants.{BlockCount, UnknownCondition}
use Rattle.sg_embed.specs.declared.outcome.Outcome.TheVariants.{UnknownHappening, UnknownInitiator}
use Rattle.sg_embed.specs.declared.outcome.Outcome.TheVariants.{FaultNumber}

-- One of a number of initiators loses its I_T nexus.
abbrev pub nexus_loss : (count initiator : ℕ) → Result Happening Outcome
nexus_loss count initiator =
    if nat_lt initiator count then Ok (NexusLoss initiator) else Err UnknownInitiator

abbrev pub establishing_for : Option UnitAttention → Option Members → Result Happening Outcome
establishing_for None members = Err UnknownCondition
establishing_for (Some condition) None = Err UnknownInitiator
establishing_for (Some condition) (Some members) = Ok (Establish condition members)

-- A condition with a code is established for the initiators of a mask.
abbrev pub establishing : (asc ascq : ℕ) → Option Members → Result Happening Outcome
establishing asc ascq members = establishing_for (condition_with asc ascq) members

-- The disk grows to a number of blocks.
abbrev pub growing : (blocks : ℕ) → Result Happening Outcome
growing blocks = if is_between 1 blocks max_capacity then Ok (Grow blocks) else Err BlockCount

abbrev pub arming : Result Fault Outcome → Result Happening Outcome
arming (Err outcome) = Err outcome
arming (Ok fault) = Ok (Arm fault)

-- The fault with a number is taken away.
abbrev pub disarming : (number : ℕ) → Result Happening Outcome
disarming number = if nat_lt number max_faults then Ok (Disarm number) else Err FaultNumber

-- What each kind asks for, in the order of their numbers in the header, from 0 on. The disk has a number of
-- initiators.
abbrev pub by_kind : (count : ℕ) → HappeningRecord → List (Result Happening Outcome)
by_kind count r =
    Ok Power
    ∷ Ok LogicalUnitReset
    ∷ Ok TargetReset
    ∷ nexus_loss count r.initiator
    ∷ establishing r.asc r.ascq (own_initiators count r.initiators)
    ∷ growing r.blocks
    ∷ arming (asked_fault count r.fault)
    ∷ disarming r.number
    ∷ Ok DisarmAll
    ∷ []

abbrev pub asked_happening : (count : ℕ) → HappeningRecord → Result Happening Outcome
asked_happening count r = slice_index_or (by_kind count r) r.kind (Err UnknownHappening)

-- What a record asks of a disk. Without a disk it may name each initiator that a disk can have.
abbrev pub asked_of : Option Kept → HappeningRecord → Result Happening Outcome
asked_of None r = asked_happening initiator_count r
asked_of (Some disk) r = asked_happening (initiators_of disk.target) r
