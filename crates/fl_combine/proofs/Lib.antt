pub mod AggregateLemmas
pub mod TreeLemmas
pub mod FanLemmas
