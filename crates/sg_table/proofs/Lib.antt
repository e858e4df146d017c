-- For stores: records and their order, lists of slots, and counts.
pub mod RecordLemmas
pub mod IndexLemmas
pub mod OccurrenceLemmas
pub mod SpliceLemmas
pub mod TableLemmas
pub mod HalvingLemmas
pub mod DataLemmas
-- For the table only: its leaves, and the search of them.
pub mod GhostNumberSteps
pub mod LeafListLemmas
pub mod LeavesLemmas
pub mod BalanceLemmas
pub mod AppendLemmas
pub mod CutLeavesLemmas
pub mod PlaceLemmas
pub mod SearchLemmas
pub mod LeafSearchLemmas
