pub mod Heads
pub mod Lexing
pub mod Marking
