-- The disk: blocks of 512 bytes. Blocks that were written are mapped to blocks of a pool, and
-- others may be anchored there (SBC-3, 4.7, logical block provisioning). A mapped or an anchored
-- address is used: it has a block of the pool, which SBC-3 calls a mapping resource.
use Rattle.std.specs.Prelude.{◌≡◌, ℕ, ◌+◌, ◌*◌, ◌^◌, ◌<◌, Bool, true, false, ◌&&◌, not, nat_le}
use Rattle.std.specs.Prelude.{nat_lt, if◌then◌else◌}
use Rattle.std.specs.Prelude.{List, [], ◌∷◌, Option, Some, None, length, take, drop, replicate, map}
use Rattle.std.specs.List.{flat_map, range_with_len, count_by}
use Rattle.std.specs.Ordering.{nat_cmp}
use Rattle.std.specs.FinMap.{FinMap, get, insert, contains_key, retain_keys, empty, entries, len}

-- The length of a block, in bytes.
abbrev pub block_length : ℕ
block_length = 512

-- The most addresses that a disk can have, and the most of them that can be mapped or anchored at
-- once.
abbrev pub max_capacity : ℕ
max_capacity = 2 ^ 40

abbrev pub max_pool : ℕ
max_pool = 4294967295

-- The use that an address makes of its block of the pool: data, or none yet. Without data it is
-- anchored (SBC-3, 4.7.4): it reads as zeros, and writing it takes no more of the pool.
pub data Mapping : Type 0 where
  Data : (block : List ℕ) → Mapping
  Anchored : Mapping

-- The addresses that have a block of the pool, each with its mapping. This is the disk's map of its
-- logical block addresses.
abbrev pub Contents : Type 0
Contents = FinMap nat_cmp Mapping

-- The number of addresses, the number of them that can have a block of the pool at once, and the
-- addresses that have one.
pub record Disk : Type 0 where
  pub capacity : ℕ
  pub pool : ℕ
  pub contents : Contents

-- No address is mapped or anchored.
abbrev pub empty_disk : (capacity pool : ℕ) → Disk
empty_disk capacity pool = record { capacity = capacity; pool = pool; contents = empty }

-- Data is a whole block.
abbrev pub HasBlockLength : Mapping → Type 0
HasBlockLength (Data block) = length block ≡ block_length
HasBlockLength Anchored = Unit

-- Each address with a block of the pool is one of the disk's, and its data is a whole block.
pub record IsWellFormed (capacity : ℕ) (contents : Contents) : Type 0 where
  pub each : (lba : ℕ) (mapping : Mapping) → get contents lba ≡ Some mapping →
      (lba < capacity) × HasBlockLength mapping

unfoldable pub zero_block : List ℕ
zero_block = replicate block_length 0

-- The block that is read at an address with such a mapping, or with none. If there is no data, it
-- is zeros (LBPRZ 1).
abbrev pub data_in : Option Mapping → List ℕ
data_in (Some (Data block)) = block
data_in (Some Anchored) = zero_block
data_in None = zero_block

-- The block at an address.
abbrev pub block : Contents → ℕ → List ℕ
block contents lba = data_in (get contents lba)

-- The blocks from an address on, joined.
unfoldable pub blocks : Contents → (lba count : ℕ) → List ℕ
blocks contents lba count = flat_map (block contents) (range_with_len lba count)

-- The block at an index of blocks that are joined.
abbrev pub block_at : List ℕ → ℕ → List ℕ
block_at bytes index = take block_length (drop (block_length * index) bytes)

-- The addresses from one on, each with the mapping for its index.
abbrev pub addressed : (lba count : ℕ) → (mapping : ℕ → Mapping) → List (ℕ × Mapping)
addressed lba count mapping = map (λ index. (lba + index, mapping index)) (range_with_len 0 count)

-- Each address with the mapping beside it, in turn.
abbrev pub with_mappings : Contents → List (ℕ × Mapping) → Contents
with_mappings contents [] = contents
with_mappings contents ((lba, mapping) ∷ more) = with_mappings (insert contents lba mapping) more

-- The addresses from one on remapped: each has the mapping for its index afterwards. So an address
-- that was not used gets a block of the pool. This is no reassigning of a bad block.
unfoldable pub remapped : Contents → (lba count : ℕ) → (mapping : ℕ → Mapping) → Contents
remapped contents lba count mapping = with_mappings contents (addressed lba count mapping)

-- The blocks from an address on replaced, each by the block for its index.
abbrev pub replaced : Contents → (lba count : ℕ) → (block : ℕ → List ℕ) → Contents
replaced contents lba count block = remapped contents lba count (λ index. Data (block index))

-- The blocks from an address on replaced by joined blocks.
abbrev pub written : Contents → (lba count : ℕ) → (bytes : List ℕ) → Contents
written contents lba count bytes = replaced contents lba count (block_at bytes)

-- The blocks from an address on replaced, all by one block.
abbrev pub filled : Contents → (lba count : ℕ) → (block : List ℕ) → Contents
filled contents lba count block = replaced contents lba count (λ index. block)

-- The disk with the addresses of a range remapped, each as its index says.
abbrev pub disk_remapped : Disk → (lba count : ℕ) → (mapping : ℕ → Mapping) → Disk
disk_remapped disk lba count mapping =
    record disk { contents = remapped disk.contents lba count mapping }

-- The disk with blocks replaced.
abbrev pub disk_replaced : Disk → (lba count : ℕ) → (block : ℕ → List ℕ) → Disk
disk_replaced disk lba count block = disk_remapped disk lba count (λ index. Data (block index))

abbrev pub disk_written : Disk → (lba count : ℕ) → (bytes : List ℕ) → Disk
disk_written disk lba count bytes = disk_replaced disk lba count (block_at bytes)

abbrev pub disk_filled : Disk → (lba count : ℕ) → (block : List ℕ) → Disk
disk_filled disk lba count block = disk_replaced disk lba count (λ index. block)

-- An address lies in a range.
abbrev pub lies_in : (lba count address : ℕ) → Bool
lies_in lba count address = nat_le lba address && nat_lt address (lba + count)

-- The entries of a map whose addresses are outside a range.
abbrev pub outside_range : {X : Type 0} → FinMap nat_cmp X → (lba count : ℕ) → FinMap nat_cmp X
outside_range found lba count = retain_keys found (λ address. not (lies_in lba count address))

-- The addresses of a range have no block of the pool any more.
unfoldable pub unmapped : Contents → (lba count : ℕ) → Contents
unmapped contents lba count = outside_range contents lba count

-- The disk with a range unmapped.
abbrev pub disk_unmapped : Disk → (lba count : ℕ) → Disk
disk_unmapped disk lba count = record disk { contents = unmapped disk.contents lba count }

-- The disk with more addresses.
abbrev pub disk_grown : Disk → (capacity : ℕ) → Disk
disk_grown disk capacity = record disk { capacity = capacity }

-- Each address of a range is anchored, and data there is lost.
abbrev pub anchored : Contents → (lba count : ℕ) → Contents
anchored contents lba count = remapped contents lba count (λ index. Anchored)

-- The disk with a range anchored.
abbrev pub disk_anchored : Disk → (lba count : ℕ) → Disk
disk_anchored disk lba count = disk_remapped disk lba count (λ index. Anchored)

-- More addresses are mapped or anchored than the pool has blocks.
abbrev pub IsOverfull : Disk → Type 0
IsOverfull disk = disk.pool < len disk.contents

-- The number of addresses of a range that have a block of the pool.
unfoldable pub used_among : Contents → (lba count : ℕ) → ℕ
used_among contents lba count = count_by (contains_key contents) (range_with_len lba count)

-- The number of addresses of a range that have no block of the pool.
unfoldable pub need : Contents → (lba count : ℕ) → ℕ
need contents lba count =
    count_by (λ address. not (contains_key contents address)) (range_with_len lba count)

-- There is data; and the number of addresses that have data.
abbrev pub has_data : Mapping → Bool
has_data (Data block) = true
has_data Anchored = false

unfoldable pub data_count : Contents → ℕ
data_count contents = count_by (λ (entry : ℕ × Mapping). has_data entry.1) (entries contents)

-- One if the address has a block of the pool, and otherwise zero.
abbrev pub used_at : Contents → ℕ → ℕ
used_at contents lba = if contains_key contents lba then 1 else 0
