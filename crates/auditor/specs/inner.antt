-- Definitions that proofs and private functions need, and no public contract cites.
pub mod AuditState
pub mod Destinations
pub mod Paths
pub mod SoFar
pub mod Steps
