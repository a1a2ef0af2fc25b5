pub mod Tree
pub mod Changes
pub mod MarkerTool
pub mod Answers
pub mod Moves
pub mod Renames
pub mod Copies
