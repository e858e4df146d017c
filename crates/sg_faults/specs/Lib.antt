-- Modules that public contracts cite. Read them in this order.
pub mod SenseCode
pub mod Places
pub mod Overwritten
pub mod Meeting
pub mod Arming
pub mod Faults
pub mod Laws
