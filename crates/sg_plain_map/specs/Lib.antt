-- The definitions that public contracts cite: the state of a `PlainMap`, the table that defines
-- this state, and the price of its calls.
pub mod State
pub mod Editing
pub mod PlainCost
-- The definitions that only private contracts cite: how the calls read and edit the table.
pub mod Status
