pub mod StreamLemmas
pub mod SeriesLemmas
