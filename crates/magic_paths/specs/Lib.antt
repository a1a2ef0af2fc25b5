pub mod Layout
pub mod Finals
pub mod Places
