pub mod Tables
pub mod Before
pub mod Edits
