pub mod Pieces
pub mod Steps
pub mod Parameters
pub mod Words
pub mod Built
pub mod Assigning
pub mod Inner
