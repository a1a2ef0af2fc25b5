mod Performing
mod Staying
mod EachCommand
mod Unchanged
mod Ending
mod Blocks
mod Joining
mod Aborting
mod Listing
mod Looking
mod Asking
mod Few
pub mod Doing
pub mod Plain
