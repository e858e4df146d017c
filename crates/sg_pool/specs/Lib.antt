-- The definitions that public contracts cite. They define slots and their chains, the source of
-- blocks, comparing a block with it, the new content of a range, what the records of a table map, and
-- the parts of a `Pool`.
pub mod Slots
pub mod Chains
pub mod Source
pub mod Comparison
pub mod Content
pub mod MappedRecords
pub mod Rising
pub mod Parts
-- The definitions that only private contracts cite.
pub mod Jumps
pub mod SlotSets
