-- The operations stage by stage, as the code goes through them. `fs_tree` states what they answer and leave.
pub mod Steps
pub mod AtPath
pub mod Climbs
pub mod Stat
pub mod Read
pub mod Make
pub mod Delete
pub mod List
