pub mod Journals
pub mod Standing
pub mod Leaving
pub mod Imaged
pub mod Steps
pub mod Replaces
