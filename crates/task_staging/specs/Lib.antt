pub mod Undoing
pub mod Staging
pub mod inner
