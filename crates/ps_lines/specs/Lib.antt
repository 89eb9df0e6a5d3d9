pub mod Texts
pub mod Lines
pub mod Numbers
pub mod Bits
pub mod ByteSet
pub mod Bytes
pub mod Classes
