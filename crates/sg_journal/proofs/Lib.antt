mod Fields
mod Batches
mod Written
mod Heads
mod Sums
mod Moments
mod Changes
mod Buffers
mod Ends
mod Waits
mod States
mod Absent
mod Blocks
pub mod Openings
mod Whole
