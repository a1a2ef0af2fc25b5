pub mod Fault
pub mod Fields
pub mod Pending
pub mod Reading
pub mod Records
pub mod Committers
pub mod Trees
pub mod inner
