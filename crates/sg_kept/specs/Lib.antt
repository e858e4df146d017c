-- What a reader has to believe: what is kept, what commands change of it, which disk a file stands for,
-- and which commands owe a flush.
pub mod Kept
pub mod Changes
pub mod Laws
pub mod Opened
pub mod Owing
pub mod Disk
pub mod Recording
-- Why a file is not opened.
pub mod Refused
pub mod Opening
-- What a crash leaves of a list of events.
pub mod History
-- Commands that share one flush.
pub mod GroupCommit
-- A file that is written afresh.
pub mod Compaction
-- What a disk is asked to have.
pub mod Asked
