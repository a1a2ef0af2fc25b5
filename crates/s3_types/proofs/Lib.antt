pub mod Begins
pub mod Blocks
pub mod Spans
pub mod Utf8
pub mod Digits
