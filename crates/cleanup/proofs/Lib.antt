pub mod Falling
pub mod Places
pub mod Pages
pub mod SparingPlaces
pub mod SparingFalls
