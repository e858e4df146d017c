-- From a CDB to its step, and lists of events.
pub mod AlertLemmas
mod TellingLemmas
pub mod StepLemmas
pub mod LiftLemmas
pub mod SenseLemmas
pub mod RunLemmas
pub mod GrowthLemmas
-- Parameter data.
pub mod LengthLemmas
pub mod ModeLemmas
pub mod StatusLemmas
pub mod RunAtLemmas
-- Extents: those on the disk, those that are unmapped, those that are joined and anchored.
pub mod ExtentLemmas
pub mod UnmapLemmas
mod InTurnLemmas
mod EachExtentLemmas
pub mod MovedLemmas
pub mod OrWriteLemmas
pub mod CopyLemmas
pub mod CopyingLemmas
pub mod CommandLemmas
mod NamedBlocksLemmas
mod OrWriteLawLemmas
mod CopyLawLemmas
mod WrittenBlocksLemmas
mod EmptyingLemmas
mod JoiningLemmas
pub mod NeedLemmas
mod PortLemmas
pub mod Space
mod FoundLemmas
-- The cost of ranges.
pub mod RangeLemmas
mod AddressRangeLemmas
mod ChargingLemmas
-- The limits of a state.
pub mod BlocksLemmas
mod MarkingLemmas
pub mod ArmedLemmas
pub mod ConcludingLemmas
mod LimitLemmas
mod ConfigurationLemmas
-- Armed faults.
pub mod FaultLawLemmas
mod HealingLemmas
