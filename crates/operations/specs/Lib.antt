pub mod Plans
pub mod Courses
pub mod Operations
pub mod Performed
pub mod inner
