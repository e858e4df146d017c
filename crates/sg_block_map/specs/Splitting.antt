-- A run that is split at an address.
use Rattle.std.specs.Prelude.{◌≡◌, ℕ, ◌+◌, ◌-◌, ◌<◌, ◌≤◌, min, max, List, ◌++◌}
use Rattle.std.specs.Prelude.{Option, IfSome, option_to_list}
use Rattle.sg_pool.specs.Chains.{slot_after}
use Rattle.sg_table.specs.declared.run.Run.{Run}
use Rattle.sg_block_map.specs.Runs.{singles_of, expanded, AreChained}
use Rattle.sg_pool.specs.Rising.{end_of}

-- The first `count` addresses of a run,
abbrev pub front_of : (next : List ℕ) → Run → (count : ℕ) → Run
front_of next run count = record {
  start = run.start;
  count = count;
  first = run.first;
  last = slot_after next run.first (count - 1);
  kind = run.kind;
}

-- and the addresses after them.
abbrev pub rest_of : (next : List ℕ) → Run → (count : ℕ) → Run
rest_of next run count = record {
  start = run.start + count;
  count = run.count - count;
  first = slot_after next run.first count;
  last = run.last;
  kind = run.kind;
}

-- The part of a run before an address.
abbrev pub IsFront : (run : Run) (lba : ℕ) → Run → Type 0
IsFront run lba front =
    (front.start ≡ run.start) × (end_of front ≡ min (end_of run) lba) × (front.start < lba)
    × (front.kind ≡ run.kind)

-- The part of a run from an address on.
abbrev pub IsRest : (run : Run) (lba : ℕ) → Run → Type 0
IsRest run lba rest = (run.start ≤ rest.start) × (lba ≤ rest.start)
    × (end_of rest ≡ end_of run) × (rest.start ≤ max run.start lba) × (rest.kind ≡ run.kind)

-- The addresses of a run before an address, and the addresses from it on, each with its slot.
pub record IsSplit (next : List ℕ) (run : Run) (lba : ℕ) (front rest : Option Run) : Type 0 where
  pub parts : expanded next (option_to_list front ++ option_to_list rest) ≡ singles_of next run
  pub chained : AreChained next (option_to_list front ++ option_to_list rest)
  pub before : IfSome front (IsFront run lba)
  pub after : IfSome rest (IsRest run lba)
