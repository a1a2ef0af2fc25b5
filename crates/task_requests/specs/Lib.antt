pub mod Writing
pub mod Publishing
pub mod inner
