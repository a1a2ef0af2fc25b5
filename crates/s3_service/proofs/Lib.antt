pub mod Below
pub mod Changed
pub mod Stores
pub mod Next
