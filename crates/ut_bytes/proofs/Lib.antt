pub mod TableLemmas
pub mod StepLemmas
pub mod SqueezeLemmas
