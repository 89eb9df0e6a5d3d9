pub mod Lent
pub mod Starts
pub mod Told
pub mod Rooms
pub mod Prepared
pub mod Runs
