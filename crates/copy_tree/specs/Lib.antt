pub mod Public
pub mod code
pub mod inner
