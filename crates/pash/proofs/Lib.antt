pub mod LineLemmas
pub mod SampleLemmas
pub mod WordLemmas
pub mod StartLemmas
pub mod RunLemmas
pub mod GraphLemmas
pub mod TopLemmas
