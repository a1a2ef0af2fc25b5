pub mod Ends
pub mod Keys
pub mod Faults
pub mod Last
pub mod Beneath
