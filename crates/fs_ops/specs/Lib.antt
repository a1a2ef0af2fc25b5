pub mod Places
pub mod code
pub mod inner
