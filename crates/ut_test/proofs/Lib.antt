pub mod EchoLemmas
pub mod QuestionLemmas
pub mod FieldLemmas
pub mod LineLaws
