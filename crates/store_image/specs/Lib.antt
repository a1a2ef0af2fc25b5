pub mod Image
pub mod Fault
pub mod Content
pub mod Reading
pub mod inner
