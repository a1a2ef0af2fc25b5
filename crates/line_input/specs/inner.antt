-- Definitions that proofs and private functions need, and no public contract cites.
pub mod Buffers
pub mod Reading
