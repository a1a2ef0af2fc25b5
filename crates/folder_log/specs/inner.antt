-- Definitions that proofs and private functions need, and no public contract cites.
pub mod Calls
pub mod Disk
pub mod Images
pub mod Kept
pub mod Lengths
pub mod Parts
