-- The marker tool stage by stage, as the code goes through it. `fs_tree` states what it answers and leaves.
pub mod Work
pub mod Tool
