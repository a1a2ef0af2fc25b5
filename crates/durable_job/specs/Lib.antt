pub mod Moves
pub mod Pace
pub mod Jobs
pub mod Played
pub mod inner
