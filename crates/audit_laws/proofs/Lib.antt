pub mod Lines
pub mod Alike
pub mod Seen
pub mod Judge
pub mod Split
