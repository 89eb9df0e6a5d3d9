pub mod KindLemmas
pub mod MachineLemmas
pub mod EngineLemmas
pub mod RoleLemmas
pub mod EndListLemmas
pub mod OutputLemmas
pub mod FileLemmas
