pub mod Between
pub mod Keys
pub mod Copies
pub mod Public
pub mod code
pub mod inner
