-- Modules that public contracts cite.
pub mod BlockDescriptor
pub mod CapacityData
pub mod DataLengths
pub mod ExtendedPages
pub mod Identity
pub mod NewIdentity
pub mod PhysicalBlock
pub mod InquiryData
pub mod ModeLaws
pub mod ModePage
pub mod ModePowerOn
pub mod ModeSelect
pub mod ModeSense
pub mod MultiByteField
pub mod ProvisioningPages
pub mod Reports
pub mod SeedLaws
pub mod ThresholdLaws
pub mod Thresholds
pub mod VitalProductData
-- A module that only private contracts cite.
pub mod SentValues
