-- Modules that public contracts cite. Read them in this order.
pub mod Holds
pub mod Outcome
pub mod Profiles
pub mod Fault
pub mod Happening
pub mod Words
pub mod Room
pub mod FileDisk
pub mod Served
pub mod Ends
pub mod Executed
pub mod Records
pub mod FileRecords
pub mod Wanted
pub mod Opening
pub mod InMemory
pub mod Structs
pub mod Kinds
pub mod Planned
pub mod Text
-- Modules that only private contracts cite.
pub mod Lends
