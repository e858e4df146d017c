-- Pending unit attention conditions (SAM-5, 5.14).
use Rattle.std.specs.Prelude.{◌≡◌, ◌≢◌, ℕ, ◌≤◌, ◌==◌, Bool, if◌then◌else◌, List, [], ◌∷◌, ◌++◌}
use Rattle.std.specs.Prelude.{length, drop, filter, slice_get, slice_index_or, slice_set}
use Rattle.std.specs.Prelude.{Option, Some, None, ◌||◌, false, nat_lt, not}
use Rattle.std.specs.List.{list_any}
use Rattle.sg_wire.specs.Initiator.{initiator_count}
use Rattle.sg_units.specs.UnitAttention.{condition_count, is_reset, number_of, reset_precedence}
use Rattle.sg_units.specs.declared.unit_attention.UnitAttention.{UnitAttention}

-- ---- Queues of conditions

-- For each initiator the queue of its pending conditions, the oldest first.
abbrev pub Pending : Type 0
Pending = List (List UnitAttention)

abbrev pub pending_for : Pending → (initiator : ℕ) → List UnitAttention
pending_for pending initiator = slice_index_or pending initiator []

-- The oldest condition of an initiator.
-- Choice (SAM-5, 5.14): conditions may be reported in another order.
abbrev pub oldest : Pending → (initiator : ℕ) → Option UnitAttention
oldest pending initiator = slice_get (pending_for pending initiator) 0

-- The oldest condition of an initiator is cleared, if one is pending.
abbrev pub without_oldest : Pending → (initiator : ℕ) → Pending
without_oldest pending initiator =
    slice_set pending initiator (drop 1 (pending_for pending initiator))

-- All conditions of an initiator are cleared.
abbrev pub without_attentions : Pending → (initiator : ℕ) → Pending
without_attentions pending initiator = slice_set pending initiator []

-- Two conditions are the same.
abbrev pub is_condition : UnitAttention → UnitAttention → Bool
is_condition condition other = number_of other == number_of condition

-- One condition of an initiator is cleared, if it is pending.
abbrev pub remaining : UnitAttention → List UnitAttention → List UnitAttention
remaining condition queue = filter (λ other. not (is_condition condition other)) queue

abbrev pub without_condition : Pending → (initiator : ℕ) → UnitAttention → Pending
without_condition pending initiator condition =
    slice_set pending initiator (remaining condition (pending_for pending initiator))

abbrev pub is_pending : List UnitAttention → UnitAttention → Bool
is_pending queue condition = list_any (is_condition condition) queue

-- A precedence is higher than another, if both exist.
abbrev pub is_higher : (precedence other : Option ℕ) → Bool
is_higher (Some precedence) (Some other) = nat_lt precedence other
is_higher _ _ = false

-- A pending condition says all that a new one would say. It is the same condition, or both are of
-- resets and the pending one has a higher precedence.
-- Choice (SAM-5, 5.14): a reset of lower precedence may be reported, too.
abbrev pub covers : (pending condition : UnitAttention) → Bool
covers pending condition =
    is_condition condition pending
    || is_higher (reset_precedence pending) (reset_precedence condition)

abbrev pub is_covered : List UnitAttention → UnitAttention → Bool
is_covered queue condition = list_any (λ pending. covers pending condition) queue

abbrev pub without_resets : List UnitAttention → List UnitAttention
without_resets queue = filter (λ condition. not (is_reset condition)) queue

-- A condition is established. Nothing changes if a pending condition covers it. The condition of a
-- reset becomes the oldest, and takes the place of those of lower precedence (SAM-5, 5.14). Every
-- other condition becomes the newest.
abbrev pub with_condition : List UnitAttention → UnitAttention → List UnitAttention
with_condition queue condition =
    if is_covered queue condition then queue
    else (if is_reset condition then condition ∷ without_resets queue
    else queue ++ condition ∷ [])

-- A condition is established for an initiator.
abbrev pub raised : Pending → (initiator : ℕ) → UnitAttention → Pending
raised pending initiator condition =
    slice_set pending initiator (with_condition (pending_for pending initiator) condition)

-- The queue after a condition, or none, is established.
abbrev pub with_optional : List UnitAttention → Option UnitAttention → List UnitAttention
with_optional queue None = queue
with_optional queue (Some condition) = with_condition queue condition

-- ---- Limits

-- A condition differs from all conditions in a queue.
abbrev pub IsNotAmong : UnitAttention → List UnitAttention → Type 0
IsNotAmong condition [] = Unit {0}
IsNotAmong condition (first ∷ rest) = (condition ≢ first) × IsNotAmong condition rest

abbrev pub AreDistinct : List UnitAttention → Type 0
AreDistinct [] = Unit {0}
AreDistinct (first ∷ rest) = IsNotAmong first rest × AreDistinct rest

-- A queue has no condition twice. So it has at most as many conditions as exist. At most its oldest
-- one is of a reset.
pub record IsQueue (queue : List UnitAttention) : Type 0 where
  pub limit : length queue ≤ condition_count
  pub distinct : AreDistinct queue
  pub reset_first : list_any is_reset (drop 1 queue) ≡ false

abbrev pub AreQueues : Pending → Type 0
AreQueues [] = Unit {0}
AreQueues (queue ∷ rest) = IsQueue queue × AreQueues rest

-- There is one queue for each initiator.
pub record ArePending (pending : Pending) : Type 0 where
  pub one_for_each : length pending ≡ initiator_count
  pub queues : AreQueues pending
