pub mod Numbers
pub mod Eyes
pub mod OneSide
pub mod Playing
pub mod Whole
pub mod Turning
pub mod Starting
