pub mod PlacesLemmas
pub mod WalkLemmas
pub mod ToldLemmas
pub mod PathLemmas
pub mod TreeStateLemmas
pub mod WritingLemmas
pub mod StandingLemmas
pub mod TakingLemmas
