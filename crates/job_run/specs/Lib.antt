pub mod Sending
pub mod Reporting
pub mod Holds
pub mod Events
pub mod Firsts
pub mod Beside
pub mod inner
