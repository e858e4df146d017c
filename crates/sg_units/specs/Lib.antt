-- Modules that public contracts cite, in the best order to read them.
pub mod UnitAttention
pub mod Attentions
pub mod Initiators
pub mod Raised
pub mod ReservationType
pub mod Registrations
pub mod Reservations
pub mod Access
pub mod UnsupportedFlags
pub mod ReserveOut
pub mod ReserveIn
pub mod FullStatus
pub mod PowerOn
pub mod Restored
pub mod Laws
