pub mod Lines
pub mod CutLines
pub mod OrderLines
pub mod Pair
pub mod Printed
pub mod Again
