pub mod Cut
pub mod Placed
pub mod Told
pub mod Steps
pub mod InOrder
pub mod LastDrawn
