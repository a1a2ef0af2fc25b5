pub mod Changes
pub mod Made
pub mod Kept
pub mod Crashes
pub mod Recovery
pub mod Appends
pub mod Images
pub mod inner
