pub mod CreateLaws
pub mod Creating
pub mod WritingLaws
mod Sending
pub mod Writing
