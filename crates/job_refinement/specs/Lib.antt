pub mod Plans
pub mod Due
pub mod Picked
pub mod MachinesFit
pub mod Deleted
