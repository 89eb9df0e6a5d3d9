pub mod Plans
pub mod Streams
pub mod Reads
pub mod Trees
pub mod Listing
pub mod Standing
pub mod Bounded
