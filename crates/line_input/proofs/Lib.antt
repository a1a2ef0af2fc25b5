pub mod FirstLines
pub mod Holding
pub mod Giving
