pub mod Steps
pub mod Tr
pub mod Tee
pub mod Inner
