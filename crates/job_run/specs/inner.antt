-- Definitions that proofs and private functions need, and no public contract cites.
pub mod Events
pub mod Posts
pub mod Reporting
pub mod Sending
