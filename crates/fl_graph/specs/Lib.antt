pub mod Net
pub mod Kinds
pub mod Makers
pub mod Paths
pub mod Valid
pub mod Checks
pub mod Machines
pub mod Runs
