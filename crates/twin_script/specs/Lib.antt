pub mod TwinScripts
pub mod Fault
pub mod Cutting
pub mod Order
pub mod Twins
pub mod Print
pub mod inner
