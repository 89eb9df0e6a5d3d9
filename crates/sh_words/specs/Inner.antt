pub mod Extents
pub mod Built
