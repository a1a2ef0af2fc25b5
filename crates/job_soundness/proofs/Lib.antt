pub mod Visible
pub mod Steady
pub mod Marked
pub mod Claimed
pub mod Declared
pub mod Safe
