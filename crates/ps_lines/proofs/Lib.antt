pub mod TextsLemmas
pub mod SeekLemmas
pub mod LineLemmas
pub mod ClosedLemmas
pub mod NewlineLemmas
pub mod NumberLemmas
pub mod ByteSetLemmas
