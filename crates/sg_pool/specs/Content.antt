-- The new mappings of the addresses of a range.
use Rattle.std.specs.Prelude.{ℕ, ◌<◌}
use Rattle.sg_store.specs.Disk.{HasBlockLength, Mapping}
use Rattle.sg_store.specs.Disk.Mapping.{Data, Anchored}
use Rattle.sg_pool.specs.Source.{block_of}
use Rattle.sg_table.specs.declared.run.Kind.{Kind}
use Rattle.sg_table.specs.declared.run.Kind.TheVariants.{Data as DataKind, Anchored as AnchoredKind}
use Rattle.sg_pool.specs.declared.content.Content.{Content}
use Rattle.sg_pool.specs.declared.content.Content.TheVariants.{Blocks, Anchor}

-- The new mapping of the address at an index of the range.
abbrev pub mapping_for : Content → (index : ℕ) → Mapping
mapping_for (Blocks source) index = Data (block_of source.now index)
mapping_for Anchor index = Anchored

-- For each index below `count` the mapping has a whole block, or none.
abbrev pub HasMappings : Content → (count : ℕ) → Type 0
HasMappings content count = (index : ℕ) → index < count → HasBlockLength (mapping_for content index)

-- The kind of the records.
abbrev pub kind_for : Content → Kind
kind_for (Blocks source) = DataKind
kind_for Anchor = AnchoredKind
