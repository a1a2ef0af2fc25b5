pub mod LineLemmas
pub mod Fronts
pub mod Turns
pub mod Whole
