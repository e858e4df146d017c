-- Extents, their order and their addresses.
pub mod BetweenLemmas
pub mod SinglesLemmas
pub mod AddressLemmas
pub mod MaximalLemmas
-- The extents near a range.
pub mod GatheringLemmas
pub mod OverlapLemmas
pub mod WalkLemmas
-- Writing a range.
pub mod DraftLemmas
pub mod WriteLemmas
-- Unmapping a range.
pub mod UnmapLemmas
-- GET LBA STATUS, the number of mapped addresses, and the store.
pub mod StatusLemmas
pub mod DataLemmas
pub mod StoreLemmas
