pub mod Entries
pub mod Owned
pub mod Dirs
pub mod Reaches
pub mod Tags
