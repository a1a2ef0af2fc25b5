pub mod Transitions
pub mod StepsPlay
pub mod Running
