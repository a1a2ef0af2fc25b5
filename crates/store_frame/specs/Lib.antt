pub mod Held
pub mod Frame
pub mod PageLaws
pub mod inner
