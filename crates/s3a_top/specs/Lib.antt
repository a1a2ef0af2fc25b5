pub mod Bytes
pub mod Statuses
pub mod Openings
pub mod Stops
pub mod Jobs
pub mod Commands
pub mod Traces
pub mod inner
