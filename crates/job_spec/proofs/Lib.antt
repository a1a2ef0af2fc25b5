pub mod Told
mod Complete
mod Restarted
mod Answered
