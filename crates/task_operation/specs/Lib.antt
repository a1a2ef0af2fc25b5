pub mod Standing
pub mod Writes
pub mod Commits
pub mod CommitStands
pub mod Aborts
pub mod AbortStands
pub mod Tasks
pub mod ByCommitter
