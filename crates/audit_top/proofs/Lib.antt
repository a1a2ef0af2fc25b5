pub mod Progress
pub mod Answering
pub mod Pieces
