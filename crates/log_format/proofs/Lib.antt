pub mod Loop
pub mod Steps
pub mod Changes
pub mod Files
pub mod Behind
