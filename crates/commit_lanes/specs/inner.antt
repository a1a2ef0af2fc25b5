-- Definitions that proofs and private functions need, and no public contract cites.
pub mod Clashes
pub mod Relatives
pub mod Tables
pub mod Undos
