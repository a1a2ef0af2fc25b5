pub mod Appended
pub mod Picking
pub mod Tallies
pub mod Unread
pub mod Keeping
pub mod Staying
