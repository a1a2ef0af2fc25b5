pub mod Cluster
pub mod inner
