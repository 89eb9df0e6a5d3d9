pub mod Ends
pub mod Work
pub mod Points
pub mod Came
pub mod Stashes
