pub mod Output
pub mod Tallies
pub mod Patterns
pub mod Faults
pub mod Grep
pub mod Series
