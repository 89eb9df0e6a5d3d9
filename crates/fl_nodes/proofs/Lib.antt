pub mod MachineLemmas
pub mod PortLemmas
pub mod MovedLemmas
pub mod WorkLemmas
pub mod CameLemmas
pub mod StashLemmas
pub mod DealLemmas
pub mod SourceLemmas
