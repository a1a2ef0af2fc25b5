pub mod AtPlace
pub mod Reported
