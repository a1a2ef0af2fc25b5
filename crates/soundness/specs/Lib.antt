pub mod Paths
pub mod Claims
pub mod Moments
