pub mod FilesApart
pub mod Staged
pub mod Records
pub mod Undone
pub mod Written
pub mod Opened
