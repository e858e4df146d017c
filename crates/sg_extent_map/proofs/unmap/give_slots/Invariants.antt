use Rattle.std.proofs.Common.{◌≡◌, ℕ, ◌+◌, length}
use Rattle.std.specs.List.{range_with_len}
use Rattle.sg_table.specs.Occurrences.{occurrences}
use Rattle.sg_extent_map.proofs.unmap.give_slots.Given as goal

-- the first slots are free
abbrev pub invariant-loop-given : goal.invariant-loop-given
invariant-loop-given l = record {
  each : (slot : ℕ) → occurrences slot l.pool.free
      ≡ occurrences slot (range_with_len l.first l.given) + occurrences slot l.fn.pool.free;
  count_is : length l.pool.free ≡ l.given + length l.fn.pool.free;
  pool : l.pool ≡ record l.fn.pool { free = l.pool.free };
}
