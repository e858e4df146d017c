-- The source of the blocks of a range.
use Rattle.std.specs.Prelude.{◌≡◌, ℕ, ◌<◌, List, length}
use Rattle.std.specs.List.{flat_map, range_with_len}
use Rattle.sg_store.specs.Disk.{block_at, block_length}
use Rattle.sg_pool.specs.declared.source.Source.{Source}
use Rattle.sg_pool.specs.declared.source.Source.TheVariants.{Joined, Repeated}

-- The block for an index of the range.
abbrev pub block_of : Source → ℕ → List ℕ
block_of (Joined bytes) index = block_at bytes.now index
block_of (Repeated block) index = block.now

-- The block for each index below `count` has its length.
abbrev pub HasBlocks : Source → (count : ℕ) → Type 0
HasBlocks source count = (index : ℕ) → index < count → length (block_of source index) ≡ block_length

-- The blocks for the indices below `count`, joined.
unfoldable pub joined_blocks : Source → (count : ℕ) → List ℕ
joined_blocks source count = flat_map (block_of source) (range_with_len 0 count)
