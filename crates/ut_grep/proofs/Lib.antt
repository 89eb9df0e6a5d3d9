pub mod FaultLemmas
pub mod UtilityLemmas
pub mod BytesLemmas
pub mod TallyLemmas
pub mod SelectionLemmas
pub mod PatternLemmas
pub mod SeriesLemmas
