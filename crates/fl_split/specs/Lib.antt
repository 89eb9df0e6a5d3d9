pub mod Inserting
pub mod Commuting
pub mod Grouping
