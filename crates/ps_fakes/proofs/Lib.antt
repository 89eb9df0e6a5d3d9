pub mod BoundedLemmas
pub mod FindLemmas
pub mod FolderLemmas
pub mod ListingLemmas
pub mod PathLemmas
pub mod SettledLemmas
