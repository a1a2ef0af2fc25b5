pub mod Acts
pub mod Falls
pub mod ActLaws
pub mod Plans
pub mod Begins
pub mod Beside
pub mod Rising
pub mod inner
