pub mod Recorded
pub mod Moments
pub mod Answers
