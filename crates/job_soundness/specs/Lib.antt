pub mod Claim
pub mod Safe
