-- What words ask for is well formed: each number is in range, and a fault names an initiator.
use Rattle.std.specs.Prelude.{◌≡◌, ◌≢◌, ◌<◌, true, length, IfSome}
use Rattle.sg_wire.specs.Initiator.{initiator_count}
use Rattle.sg_units.specs.Initiators.{Members, no_initiators}
use Rattle.sg_faults.specs.Faults.{max_faults}
use Rattle.sg_faults.specs.declared.fault.Fault.{Fault}
use Rattle.sg_store.specs.Disk.{max_capacity}
use Rattle.sg_target.specs.Config.{is_between}
use Rattle.sg_target.specs.declared.happening.Happening.{Happening}
use Rattle.sg_target.specs.declared.happening.Happening.TheVariants.{Arm, Disarm, Establish, Grow}
use Rattle.sg_target.specs.declared.happening.Happening.TheVariants.{NexusLoss}

-- The list has an entry for each initiator.
abbrev pub AreMembers : Members → Type 0
AreMembers members = length members ≡ initiator_count

-- A fault names an initiator. If it lies on blocks, there is at least one. If its times are limited,
-- there is at least one time.
pub record IsWellFormedFault (fault : Fault) : Type 0 where
  pub initiators : AreMembers fault.initiators
  pub somebody : fault.initiators ≢ no_initiators
  pub some_block : IfSome fault.blocks (λ bad. 0 < bad.extent.count)
  pub some_time : IfSome fault.times (λ times. 0 < times)

abbrev pub IsWellFormed : Happening → Type 0
IsWellFormed (NexusLoss initiator) = initiator < initiator_count
IsWellFormed (Establish condition members) = AreMembers members
IsWellFormed (Grow blocks) = is_between 1 blocks max_capacity ≡ true
IsWellFormed (Arm fault) = IsWellFormedFault fault
IsWellFormed (Disarm number) = number < max_faults
IsWellFormed happening = Unit
