pub mod Begins
pub mod Above
pub mod Making
pub mod Dropping
pub mod Moving
