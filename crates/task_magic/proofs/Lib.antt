pub mod Whole
pub mod Undone
pub mod Listed
pub mod Committed
