pub mod MachineLemmas
pub mod WaitingLemmas
pub mod SeriesLemmas
pub mod PortLemmas
pub mod PasteLemmas
