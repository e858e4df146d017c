-- Runs, their order and their addresses.
pub mod BetweenLemmas
pub mod OrderLemmas
pub mod ExpandedLemmas
pub mod AddressLemmas
-- The runs of a table.
pub mod RunSlotLemmas
pub mod GatheringLemmas
pub mod WalkLemmas
-- Writing a range.
pub mod SplitLemmas
pub mod JoinLemmas
pub mod OverwriteLemmas
pub mod WriteLemmas
pub mod FinishLemmas
-- Unmapping a range.
pub mod CutLemmas
pub mod RemainingLemmas
pub mod CutRunsLemmas
pub mod RemainingPartLemmas
-- GET LBA STATUS, and what is counted of a range.
pub mod StatusLemmas
pub mod OverlapLemmas
pub mod DataLemmas
pub mod MeetingLemmas
-- Maximal runs, and the store.
pub mod RunLawLemmas
pub mod MaximalLemmas
pub mod StoreLemmas
