pub mod Ids
pub mod inner
