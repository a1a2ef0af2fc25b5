pub mod Alone
pub mod Worlds
