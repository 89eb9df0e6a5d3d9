pub mod BuildingLemmas
pub mod Shrinking
pub mod ReadLemmas
pub mod Readings
pub mod ExtentLemmas
pub mod NumberLemmas
