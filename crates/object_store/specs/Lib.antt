pub mod Held
pub mod Objects
pub mod inner
