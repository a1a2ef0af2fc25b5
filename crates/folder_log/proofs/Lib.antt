pub mod Crash
pub mod Moments
pub mod Appends
pub mod Recorded
pub mod Choices
