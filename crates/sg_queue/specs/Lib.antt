pub mod QueuedCall
pub mod QueueFields
pub mod NextCall
pub mod Contents
pub mod Moments
-- ---- Only private contracts cite these.
pub mod Waiting
