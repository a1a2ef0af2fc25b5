-- Definitions that proofs and private functions need, and no public contract cites.
pub mod Committing
pub mod Undoing
pub mod Writing
