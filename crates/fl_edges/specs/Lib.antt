pub mod Halves
pub mod Settled
