pub mod Echo
pub mod Operators
pub mod Tests
pub mod Questions
pub mod Fields
