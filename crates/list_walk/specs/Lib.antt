pub mod Walks
pub mod Fitting
pub mod Kept
pub mod Left
pub mod WalksEnd
pub mod inner
