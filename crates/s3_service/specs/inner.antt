-- Definitions that proofs and private functions need, and no public contract cites.
pub mod Changed
pub mod Ids
pub mod Named
pub mod Next
