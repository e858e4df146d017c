-- Comparing a block of the disk with the block that a source has for an index of the range.
use Rattle.std.specs.Prelude.{ℕ, ◌+◌, ◌*◌, List, Result, option_map}
use Rattle.sg_store.specs.Comparison.{compared_by, first_difference}
use Rattle.sg_store.specs.Disk.{block_length}
use Rattle.sg_store.specs.declared.store.Miscompare.{Miscompare}
use Rattle.sg_pool.specs.Source.{block_of}
use Rattle.sg_pool.specs.declared.source.Source.{Source}

-- The result of comparing a block with the block for an index. The offset of a byte that differs
-- counts from the first byte of the range.
abbrev pub compared_at : Source → (index : ℕ) → (block : List ℕ) → Result Unit Miscompare
compared_at source index block =
    compared_by (option_map (λ offset. block_length * index + offset)
    (first_difference block (block_of source index)))
