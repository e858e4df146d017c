-- For stores: comparisons, ranges of a disk, one block at a time, and the descriptors of an answer.
pub mod ComparisonLemmas
pub mod DiskLemmas
pub mod WellFormedLemmas
pub mod DescriptorLemmas
pub mod StatusLemmas
pub mod UnmapLemmas
pub mod WriteLemmas
pub mod NeedLemmas
-- For the laws.
pub mod ReportLemmas
