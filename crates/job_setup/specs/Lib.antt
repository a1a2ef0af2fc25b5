pub mod Held
pub mod Fits
pub mod Left
pub mod SetupsEnd
pub mod AskingLaws
pub mod inner
