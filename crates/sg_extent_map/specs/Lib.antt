-- The definitions that public contracts cite: the extents of a table, the state of an `ExtentMap`,
-- the price of its calls, and its parts.
pub mod Extents
pub mod State
pub mod ExtentCost
pub mod Parts
-- The definitions that only private contracts cite: how the calls gather extents, walk over them,
-- draft new ones and put these into the table, and how GET LBA STATUS goes over extents.
pub mod ExtentsProps
pub mod Gathering
pub mod Walking
pub mod Drafting
pub mod Writing
pub mod Status
