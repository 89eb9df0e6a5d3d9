pub mod Logs
pub mod Engines
pub mod OwnEnds
