pub mod Endings
pub mod EndLists
pub mod GraphRuns
pub mod Roles
