pub mod Listing
pub mod MarkerLaws
pub mod MissingLaws
pub mod SameTree
pub mod ToolLaws
pub mod WorkLaws
