pub mod Ranges
pub mod PartPaths
pub mod PartFiles
pub mod Adding
pub mod Declaring
pub mod Happening
pub mod LegalScript
