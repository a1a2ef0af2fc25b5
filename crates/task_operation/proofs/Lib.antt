pub mod WriteFalls
pub mod AbortFalls
pub mod CommitFalls
