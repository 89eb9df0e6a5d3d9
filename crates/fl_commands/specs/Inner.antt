-- Words that the functions of this crate need for themselves.
pub mod Writing
pub mod Stages
pub mod Segments
pub mod Marks
pub mod Overs
pub mod Begun
