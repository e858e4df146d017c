-- Modules that public contracts cite: the disk, comparing its blocks, the cost of the calls, the
-- answer of GET LBA STATUS, and the laws.
pub mod Disk
pub mod Comparison
pub mod Meter
pub mod LbaStatus
pub mod Laws
-- Proofs that the model of a type with a store cites, for example the model of the target. They say
-- nothing of the disk.
pub mod DiskProps
pub mod ContentsCode
-- A module that only private contracts of stores cite.
pub mod PutDescriptors
