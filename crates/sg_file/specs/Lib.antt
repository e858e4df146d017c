pub mod Calls
pub mod History
pub mod Source
pub mod Moments
