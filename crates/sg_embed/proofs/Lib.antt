pub mod CommandLemmas
pub mod CompactingLemmas
pub mod FileDiskLemmas
pub mod OpeningLemmas
pub mod MaskLemmas
pub mod RecordLemmas
pub mod SlotFileLemmas
pub mod SlotSteps
mod InMemoryLemmas
