pub mod KindLemmas
pub mod WireLemmas
pub mod MapLemmas
pub mod PartLemmas
pub mod InsertLemmas
pub mod CommuteLemmas
pub mod GroupLemmas
