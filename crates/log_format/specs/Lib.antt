pub mod Change
pub mod Log
pub mod Fault
pub mod Reading
pub mod File
pub mod inner
