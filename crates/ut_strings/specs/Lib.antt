pub mod Marked
pub mod Items
pub mod Sides
pub mod Strings
