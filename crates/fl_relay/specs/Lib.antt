pub mod Rule
pub mod Relays
pub mod Eager
pub mod Edges
