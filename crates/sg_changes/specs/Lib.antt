-- Modules that public contracts cite, in the best order to read them.
pub mod KeptFields
pub mod Change
pub mod Format
pub mod ExtentFormat
pub mod ReservationFormat
pub mod FaultFormat
pub mod Records
pub mod Replay
pub mod FirstRecord
pub mod Borrowed
pub mod Reading
pub mod Writing
pub mod Snapshot
pub mod Laws
