pub mod Names
pub mod Parts
pub mod Values
pub mod Texts
pub mod Readings
pub mod Inner
