pub mod Stages
pub mod Noted
pub mod Groups
pub mod Spread
pub mod Chains
pub mod Inner
