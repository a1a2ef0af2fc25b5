pub mod Heads
pub mod Sends
pub mod Trace
pub mod DryRuns
pub mod inner
