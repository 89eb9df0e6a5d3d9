pub mod Numbers
pub mod Rows
pub mod Given
pub mod Scanning
