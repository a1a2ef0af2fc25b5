pub mod Asks
pub mod Phases
pub mod Looks
pub mod Walking
pub mod Sweeping
pub mod Uploads
pub mod inner
