pub mod Cuts
pub mod Runs
pub mod Begun
pub mod Heads
pub mod Ports
pub mod Rows
pub mod Columns
pub mod Serials
