pub mod TwinText
pub mod inner
