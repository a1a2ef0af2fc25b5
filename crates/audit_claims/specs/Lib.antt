pub mod Claims
pub mod Etags
pub mod Fits
pub mod Directories
pub mod inner
