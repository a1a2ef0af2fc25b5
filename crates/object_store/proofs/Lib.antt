pub mod Flat
pub mod Next
pub mod Own
pub mod Scan
