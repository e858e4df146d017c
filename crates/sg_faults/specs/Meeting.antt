-- Which commands a fault meets.
use Rattle.std.specs.Prelude.{ℕ, ◌+◌, ◌==◌, Bool, true, false, ◌&&◌, not, List, [], ◌∷◌, max, nat_le, nat_lt}
use Rattle.std.specs.Prelude.{◌||◌, Option, Some, None, option_and_then, if◌then◌else◌, is_some}
use Rattle.std.specs.List.{list_any}
use Rattle.std.specs.Option.{option_map_or}
use Rattle.sg_wire.specs.declared.extent.Extent.{Extent}
use Rattle.sg_store.specs.Disk.{lies_in}
use Rattle.sg_faults.specs.declared.fault.BadBlocks.{BadBlocks}
use Rattle.sg_faults.specs.declared.fault.Fault.{Fault}

-- What a fault knows of a command. A command that a check refuses reads and writes no block.
pub record Seen : Type 0 where
  -- who sends it
  pub initiator : ℕ
  -- its operation code, if its CDB has a byte
  pub code : Option ℕ
  -- the blocks that it reads, before it writes any
  pub read : Option Extent
  -- the blocks that it writes, whatever they contain
  pub overwritten : List Extent

-- ---- Blocks

-- A command that reads or writes a block reaches the medium.
abbrev pub has_block : Extent → Bool
has_block extent = nat_lt 0 extent.count

abbrev pub reaches_medium : Seen → Bool
reaches_medium command =
    option_map_or has_block command.read false || list_any has_block command.overwritten

abbrev pub lies_in_extent : Extent → (address : ℕ) → Bool
lies_in_extent extent address = lies_in extent.lba extent.count address

-- The first address that two extents have in common.
abbrev pub first_common : (named blocks : Extent) → Option ℕ
first_common named blocks = let first = max named.lba blocks.lba in
    if lies_in_extent named first && lies_in_extent blocks first then Some first else None

-- The first of some blocks that extents name, in the first extent that has one.
abbrev pub first_in : List Extent → (blocks : Extent) → Option ℕ
first_in [] blocks = None
first_in (named ∷ rest) blocks =
    if is_some (first_common named blocks) then first_common named blocks else first_in rest blocks

-- An extent contains some blocks whole.
abbrev pub contains : (named blocks : Extent) → Bool
contains named blocks =
    nat_le named.lba blocks.lba && nat_le (blocks.lba + blocks.count) (named.lba + named.count)

abbrev pub one_contains : List Extent → (blocks : Extent) → Bool
one_contains extents blocks = list_any (λ named. contains named blocks) extents

-- The first of some blocks that a command reads, and the first that it overwrites.
abbrev pub first_read : Seen → (blocks : Extent) → Option ℕ
first_read command blocks =
    option_and_then (λ (named : Extent). first_common named blocks) command.read

abbrev pub first_overwritten : Seen → (blocks : Extent) → Option ℕ
first_overwritten command blocks = first_in command.overwritten blocks

-- ---- Faults

-- A command heals blocks that a write heals, if it overwrites all of them.
abbrev pub heals : Seen → BadBlocks → Bool
heals command bad = bad.healed_by_writes && one_contains command.overwritten bad.extent

-- A fault that names blocks meets only commands that read one of them, or overwrite one without healing
-- them.
abbrev pub names_one : Seen → Option BadBlocks → Bool
names_one command None = true
names_one command (Some bad) =
    is_some (first_read command bad.extent)
    || (is_some (first_overwritten command bad.extent) && not (heals command bad))

-- A fault that names an operation code meets only commands with that code.
abbrev pub has_code : (code wanted : Option ℕ) → Bool
has_code code None = true
has_code None (Some wanted) = false
has_code (Some code) (Some wanted) = code == wanted

abbrev pub meets : Seen → Fault → Bool
meets command fault = has_code command.code fault.code && names_one command fault.blocks
