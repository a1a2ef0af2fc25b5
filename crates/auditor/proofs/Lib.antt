pub mod Seen
pub mod Sets
pub mod Stepping
pub mod Telling
pub mod Opening
pub mod Requests
pub mod Due
pub mod Taking
