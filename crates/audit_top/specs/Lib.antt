pub mod Progress
pub mod Answer
pub mod Audited
pub mod inner
