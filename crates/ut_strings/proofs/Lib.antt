pub mod ItemLemmas
pub mod PassingLemmas
