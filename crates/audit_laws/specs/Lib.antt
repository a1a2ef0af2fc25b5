pub mod Alike
pub mod LineByLine
pub mod Split
