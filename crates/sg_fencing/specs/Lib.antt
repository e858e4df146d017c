-- Modules that the laws cite. Read them in this order.
pub mod Laws
pub mod ChosenAnswers
pub mod Exchanges
pub mod Comparisons
pub mod Reports
pub mod Fencing
pub mod Registrants
pub mod Group
pub mod PowerCycles
pub mod WithFaults
pub mod Stopping
pub mod Room
