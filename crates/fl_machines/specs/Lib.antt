pub mod Kinds
pub mod Waiting
pub mod Through
pub mod InSeries
pub mod AtPorts
