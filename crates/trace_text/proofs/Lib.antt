pub mod Cutting
pub mod Firsts
pub mod Unsent
pub mod Due
pub mod Following
pub mod Written
