pub mod Keyed
pub mod Numbered
pub mod Rows
pub mod Follow
