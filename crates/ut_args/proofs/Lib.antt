pub mod CommandLemmas
pub mod PieceLemmas
pub mod ListLemmas
pub mod WordLemmas
pub mod OperandLemmas
pub mod LabelLemmas
