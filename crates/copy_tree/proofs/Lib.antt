pub mod Resume
pub mod Ended
pub mod CopyLaws
pub mod FallLaws
pub mod MoveLaws
pub mod Moved
pub mod PartLaws
pub mod StepLaws
