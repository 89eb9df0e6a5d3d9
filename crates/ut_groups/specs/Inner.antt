pub mod Columns
pub mod Open
pub mod Series
pub mod Runs
