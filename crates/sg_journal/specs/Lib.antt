-- What a reader has to believe: the format, what a file stands for, and what a device may do.
pub mod Layout
pub mod Journal
pub mod Device
pub mod BatchValue
pub mod JournalState
pub mod Reading
pub mod Laws
-- What only the types' own files cite.
pub mod Batch
pub mod Reads
pub mod Record
pub mod Sums
pub mod Memory
pub mod MemoryBytes
pub mod MemoryLaws
