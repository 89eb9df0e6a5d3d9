-- What an engine tells of itself (own): how it spreads graphs, and what they have run.
use Rattle.std.specs.Prelude.{ℕ, List, ◌++◌}

-- over how many parts graphs are to be spread, and the words of the utilities that its graphs have run, in the order of the runs
pub record Log : Type 0 where
  pub width : ℕ
  pub words : List (List (List ℕ))

abbrev pub log_of : ℕ → List (List (List ℕ)) → Log
log_of width words = record { width = width; words = words }

-- with these words behind those that were run before
abbrev pub with_words : List (List (List ℕ)) → Log → Log
with_words words log = record log { words = log.words ++ words }

-- spread over so many parts from now on
abbrev pub at_width : ℕ → Log → Log
at_width width log = record log { width = width }
