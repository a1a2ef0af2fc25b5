pub mod Framed
pub mod Reading
pub mod Flat
pub mod Prefix
pub mod Stem
pub mod Walked
pub mod Listed
