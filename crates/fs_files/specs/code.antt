-- The making of a file stage by stage, as the code goes through it. `fs_tree` states what it answers and leaves.
pub mod Writing
pub mod Create
