pub mod Turns
pub mod Holds
pub mod inner
