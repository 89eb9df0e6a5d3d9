pub mod OwnLemmas
pub mod OwnRunLemmas
