-- The descriptors that a store puts.
use Rattle.std.specs.Prelude.{◌≡◌, ℕ, length}
use Rattle.std.specs.List.{flat_map}
use Rattle.sg_wire.specs.Cut.{Puts}
use Rattle.sg_wire.specs.LbaStatus.{descriptor_bytes}
use Rattle.sg_wire.specs.declared.cut.Cut.{Cut}
use Rattle.sg_store.specs.Disk.{Contents}
use Rattle.sg_store.specs.LbaStatus.{descriptors_from, max_descriptors}

-- The descriptors from an address on are put, `count` of them.
pub record PutsDescriptors (contents : Contents) (capacity lba : ℕ) (old new : Cut) (count : ℕ) :
    Type 0 where
  pub bytes : Puts old new
      (flat_map descriptor_bytes (descriptors_from contents capacity lba max_descriptors))
  pub count_is : count ≡ length (descriptors_from contents capacity lba max_descriptors)
