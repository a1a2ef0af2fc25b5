-- Definitions that proofs and private functions need, and no public contract cites.
pub mod Openings
pub mod Plays
pub mod Reads
pub mod Statuses
pub mod Stops
pub mod Traces
pub mod Tracings
pub mod Workings
pub mod Works
