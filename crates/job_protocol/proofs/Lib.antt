pub mod PathBounds
mod Tabled
pub mod Wearing
pub mod Faults
pub mod Shared
pub mod Members
pub mod Tables
pub mod LaneTables
pub mod Hands
pub mod LaneEnds
pub mod Orders
pub mod Told
pub mod Sizes
pub mod Begun
