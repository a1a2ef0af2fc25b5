pub mod Markers
pub mod Works
pub mod code
