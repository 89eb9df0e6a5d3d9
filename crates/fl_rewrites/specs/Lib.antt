pub mod Numbering
pub mod Places
pub mod Replacing
pub mod Suits
pub mod Keeps
pub mod Known
pub mod Joined
pub mod Inner
