pub mod Elements
pub mod Ends
pub mod Kept
pub mod Lengths
pub mod Tails
pub mod Walked
