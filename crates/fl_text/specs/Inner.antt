-- Words that only proofs need.
pub mod Members
pub mod Kinds
pub mod Drafts
pub mod Written
pub mod Wirings
pub mod Writings
