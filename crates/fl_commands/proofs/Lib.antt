pub mod OperandLemmas
pub mod ReaderLemmas
pub mod WriterLemmas
pub mod InputLemmas
pub mod StageLemmas
pub mod MarkLemmas
pub mod RunLemmas
pub mod GraphLemmas
