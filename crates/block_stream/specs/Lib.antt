pub mod Stream
pub mod Holds
pub mod Stored
pub mod Kept
pub mod Coded
pub mod inner
