-- Unit attention conditions that a command or an event establishes (SAM-5, 5.14). To raise a
-- condition for an initiator is to establish it for the initiator's I_T nexus.
use Rattle.std.specs.Prelude.{ℕ, List, map, replicate, slice_index_or, slice_set, if◌then◌else◌}
use Rattle.std.specs.Prelude.{Option, Some, None}
use Rattle.std.specs.List.{range_with_len}
use Rattle.sg_wire.specs.Initiator.{initiator_count}
use Rattle.sg_units.specs.Attentions.{Pending, pending_for, with_optional}
use Rattle.sg_units.specs.Initiators.{Members, is_member}
use Rattle.sg_units.specs.declared.unit_attention.UnitAttention.{UnitAttention}

-- For each initiator the condition that is established for it, if any.
abbrev pub Conditions : Type 0
Conditions = List (Option UnitAttention)

-- One condition for every initiator except the initiator whose command establishes it.
abbrev pub raised_for_others : (initiator : ℕ) → UnitAttention → Conditions
raised_for_others initiator condition =
    slice_set (replicate initiator_count (Some condition)) initiator None

-- One condition for every initiator.
abbrev pub raised_for_all : UnitAttention → Conditions
raised_for_all condition = replicate initiator_count (Some condition)

-- One condition for the members of a set of initiators.
abbrev pub raised_for_member : Members → UnitAttention → (initiator : ℕ) → Option UnitAttention
raised_for_member members condition initiator =
    if is_member members initiator then Some condition else None

unfoldable pub raised_for_members : Members → UnitAttention → Conditions
raised_for_members members condition =
    map (raised_for_member members condition) (range_with_len 0 initiator_count)

-- The queue of an initiator after they are established.
abbrev pub queue_after : Pending → Conditions → (initiator : ℕ) → List UnitAttention
queue_after pending conditions initiator =
    with_optional (pending_for pending initiator) (slice_index_or conditions initiator None)

unfoldable pub raised_for_each : Pending → Conditions → Pending
raised_for_each pending conditions =
    map (queue_after pending conditions) (range_with_len 0 initiator_count)
