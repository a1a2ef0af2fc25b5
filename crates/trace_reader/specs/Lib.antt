pub mod Faults
pub mod Operations
pub mod Reading
pub mod inner
