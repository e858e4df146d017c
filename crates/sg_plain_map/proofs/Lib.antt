-- The records of a range.
pub mod CursorLemmas
pub mod RangeLemmas
pub mod CountLemmas
-- Writing and unmapping.
pub mod EditingLemmas
pub mod RemovalLemmas
-- GET LBA STATUS.
pub mod DescribedLemmas
