-- A copy stage by stage, as the code goes through it. `fs_tree` and `Public` state what it answers and leaves.
pub mod Copy
pub mod Meaning
