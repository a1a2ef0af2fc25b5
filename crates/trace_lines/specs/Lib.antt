pub mod Lines
pub mod Words
pub mod Requests
pub mod Members
pub mod inner
