pub mod Aggregating
pub mod Fanning
