pub mod Counts
pub mod Told
pub mod Paths
pub mod Files
pub mod TreeState
pub mod Places
