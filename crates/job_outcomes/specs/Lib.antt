pub mod CommitRuns
pub mod SetupEnds
pub mod TaskEnds
pub mod CleanEnds
pub mod Alone
pub mod RunEntries
pub mod CommitMoments
pub mod EventRows
