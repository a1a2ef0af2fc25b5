pub mod Calls
pub mod Devices
pub mod Logged
pub mod Causes
pub mod Memory
