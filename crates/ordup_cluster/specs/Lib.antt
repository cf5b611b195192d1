pub mod Sessions
pub mod Clusters
pub mod ClosedInside
pub mod ClusterInside
pub mod QueryInside
pub mod Refusals
