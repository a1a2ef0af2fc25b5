pub mod Following
pub mod Found
pub mod Replacing
pub mod Keeping
