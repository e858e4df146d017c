-- For stores: chains of slots, and what the records of a table map.
pub mod LinkLemmas
pub mod SourceLemmas
pub mod ComparisonLemmas
pub mod MappedLemmas
pub mod EntryLemmas
pub mod BlockLemmas
pub mod ConsistencyLemmas
pub mod RisingLemmas
pub mod ContentsLemmas
pub mod RemainingLemmas
-- For the pool only.
pub mod PoolLemmas
pub mod SlotBytesLemmas
pub mod ChainLemmas
pub mod FreeLemmas
pub mod JumpLemmas
pub mod LeapLemmas
pub mod WayLemmas
pub mod SlotSetLemmas
