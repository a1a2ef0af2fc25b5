pub mod Searches
pub mod Steps
pub mod Goings
pub mod Tables
pub mod Whole
pub mod Lost
