pub mod Disk
pub mod Kept
pub mod Parts
pub mod Calls
pub mod Images
pub mod Lengths
pub mod inner
