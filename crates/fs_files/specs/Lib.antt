pub mod Placed
pub mod Creation
pub mod Requests
pub mod code
pub mod inner
