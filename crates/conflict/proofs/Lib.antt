pub mod CutPaths
pub mod Tells
pub mod Deleting
pub mod Rising
pub mod SamePartitions
pub mod Falling
