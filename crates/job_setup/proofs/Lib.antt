pub mod Falling
pub mod Shown
