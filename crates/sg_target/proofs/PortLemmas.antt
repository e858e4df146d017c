-- The number of a disk's initiators.
use Rattle.std.proofs.Common.{◌≤◌, arith}
use Rattle.sg_wire.specs.Initiator.{initiator_count}
use Rattle.sg_wire.specs.Profile.{limits_of}
use Rattle.sg_wire.specs.declared.profile.Profile.{Profile}
use Rattle.sg_wire.specs.declared.profile.Profile.TheVariants.{Base, Extended}

pub most_initiators : (profile : Profile) → (limits_of profile).initiators ≤ initiator_count
most_initiators Base = omega arith
most_initiators Extended = omega arith
