pub mod Listed
pub mod Renamed
