-- Definitions that proofs and private functions need, and no public contract cites.
pub mod Deciding
pub mod Narrowed
pub mod Picking
pub mod Scene
pub mod Tests
