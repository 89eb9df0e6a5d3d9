mod VariableLemmas
mod ConstantLemmas
pub mod TokenLemmas
pub mod TreeLemmas
pub mod SyntaxLemmas
pub mod ReadLemmas
pub mod BracketLemmas
pub mod ParsingLemmas
pub mod UniqueLemmas
pub mod OutcomeLemmas
pub mod NeverLemmas
pub mod SomeLemmas
pub mod InversionLemmas
pub mod LevelLemmas
pub mod EvaluationLemmas
