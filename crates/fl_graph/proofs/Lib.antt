pub mod ListLemmas
pub mod PlaceLemmas
pub mod NetLemmas
pub mod EdgeLemmas
pub mod CheckLemmas
pub mod PieceLemmas
pub mod RunLemmas
pub mod StateLemmas
