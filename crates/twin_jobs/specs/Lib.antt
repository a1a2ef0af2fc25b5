pub mod Order
pub mod Pairs
pub mod Worlds
pub mod Played
pub mod inner
