pub mod Shared
pub mod Checks
pub mod Ends
