pub mod LinesOf
pub mod Reading
pub mod Buffers
pub mod inner
