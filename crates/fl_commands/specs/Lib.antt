pub mod Operands
pub mod Readers
pub mod Writers
pub mod Inputs
pub mod Members
pub mod Runs
pub mod Graphs
pub mod Inner
