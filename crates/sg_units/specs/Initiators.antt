-- Sets of initiators.
use Rattle.std.specs.Prelude.{ℕ, ◌/◌, ◌%◌, ◌^◌, ◌==◌, Bool, true, false}
use Rattle.std.specs.Prelude.{List, map, replicate, slice_index_or, slice_set}
use Rattle.std.specs.List.{range_with_len}
use Rattle.sg_wire.specs.Initiator.{initiator_count}

-- For each initiator, in the order of their numbers, whether it is a member.
abbrev pub Members : Type 0
Members = List Bool

abbrev pub is_member : Members → (initiator : ℕ) → Bool
is_member members initiator = slice_index_or members initiator false

abbrev pub no_initiators : Members
no_initiators = replicate initiator_count false

abbrev pub all_initiators : Members
all_initiators = replicate initiator_count true

-- The initiators of a mask. Initiator i has bit i.
abbrev pub is_in_mask : (mask initiator : ℕ) → Bool
is_in_mask mask initiator = mask / 2 ^ initiator % 2 == 1

unfoldable pub members_of_mask : (mask : ℕ) → Members
members_of_mask mask = map (is_in_mask mask) (range_with_len 0 initiator_count)

abbrev pub with_member : Members → (initiator : ℕ) → Members
with_member members initiator = slice_set members initiator true
