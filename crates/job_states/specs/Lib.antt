pub mod Standing
pub mod Stands
pub mod Turning
pub mod Mixes
pub mod inner
