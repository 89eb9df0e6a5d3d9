pub mod Samples
pub mod Words
pub mod Answers
pub mod Readings
pub mod Starts
pub mod Meaning
pub mod Runs
