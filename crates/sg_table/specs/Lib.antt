-- The definitions that public contracts cite. They define the records in their order, the table,
-- and the records that are prepared for it. They define the leaves, their slots, the occurrences of
-- a slot, and the cost of a search. They also define the fields of a type, and the parts of a
-- table.
pub mod Records
pub mod Table
pub mod Draft
pub mod Occurrences
pub mod Leaves
pub mod LeafList
pub mod Search
pub mod Fields
pub mod Parts
