-- Words that only proofs and private functions need: what is owed behind the items that are read, the states in which a script is built
-- and what the code's values stand for, and how the first misuse is sought. No contract of a public call cites them.
pub mod Kinds
pub mod Owed
pub mod Moves
pub mod Building
pub mod Built
pub mod Seeking
pub mod Behind
pub mod WordsOf
pub mod Parses
