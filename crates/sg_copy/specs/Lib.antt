pub mod CopyFaults
pub mod CopyList
pub mod CopyReports
pub mod EndedCopies
