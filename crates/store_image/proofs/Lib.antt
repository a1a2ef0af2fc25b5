pub mod Steps
pub mod Maps
pub mod Loop
pub mod Entries
pub mod Spelled
pub mod Whole
