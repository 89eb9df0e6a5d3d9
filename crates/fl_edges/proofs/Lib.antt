pub mod EachLemmas
pub mod LaidLemmas
pub mod PutLemmas
pub mod SettledLemmas
