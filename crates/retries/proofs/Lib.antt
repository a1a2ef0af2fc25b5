mod Lists
pub mod SameRequest
pub mod Misses
pub mod First
pub mod Runs
