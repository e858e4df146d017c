-- ---- Public contracts cite these: the one rule of all texts,
pub mod Items
pub mod Lines
pub mod Values
-- the table of each answer,
pub mod Inquiry
pub mod VitalProductData
pub mod ModeParameters
pub mod LbaStatus
pub mod Capacity
pub mod PersistentReservation
pub mod ReportLuns
pub mod SupportedOperations
pub mod LogPages
pub mod DefectData
pub mod Entries
-- and the texts that are no table.
pub mod SenseText
pub mod HexText
-- ---- Only private contracts cite these.
pub mod HexPieces
