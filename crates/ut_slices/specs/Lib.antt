pub mod Ends
pub mod Head
pub mod Tail
pub mod Cut
pub mod Paste
pub mod Inner
