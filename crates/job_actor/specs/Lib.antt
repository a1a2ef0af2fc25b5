pub mod Acts
pub mod Posting
pub mod Plans
pub mod Picks
pub mod Reports
pub mod Works
pub mod inner
