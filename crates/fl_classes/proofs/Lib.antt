pub mod SliceLemmas
pub mod ClassLemmas
pub mod PartLemmas
pub mod FlowLemmas
pub mod CutLemmas
pub mod OrderLemmas
pub mod OperandLemmas
pub mod KindLemmas
