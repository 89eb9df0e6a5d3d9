pub mod PieceLemmas
pub mod RuleLemmas
pub mod EagerLemmas
