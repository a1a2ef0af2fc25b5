mod Searching
pub mod ReadFiles
pub mod SamePaths
pub mod Placing
mod Undoing
mod Behind
mod Trying
pub mod KeysApart
mod Numbers
pub mod CommitEnds
pub mod Falling
