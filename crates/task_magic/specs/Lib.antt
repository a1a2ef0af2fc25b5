pub mod Writing
pub mod Undoing
pub mod Committing
pub mod inner
