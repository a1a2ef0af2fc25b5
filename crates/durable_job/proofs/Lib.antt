pub mod Paces
pub mod Turns
pub mod Held
pub mod Ends
