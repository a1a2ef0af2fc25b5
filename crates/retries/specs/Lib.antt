pub mod Same
pub mod Operation
pub mod Worn
pub mod Retries
pub mod RetryLaws
