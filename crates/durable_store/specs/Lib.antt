pub mod Works
pub mod Doing
pub mod Stores
pub mod Outcomes
pub mod inner
