-- Where command substitutions end. Each text is read in exactly one way (`sh_lex`), so what is left behind the tokens of a `$( )` is a
-- function.
use Rattle.std.specs.Prelude.{◌≡◌, List, ℕ, ◌++◌}
use Rattle.sh_lex.proofs.Readings.{Reads-some}
use Rattle.sh_words.specs.Words.{left_by, in_commands}

-- what is left behind the tokens of a `$( )` that begin a text
abbrev pub left_behind : List ℕ → List ℕ
left_behind text = left_by (Reads-some in_commands text).0

-- the bytes are the tokens of a `$( )` with its `)`, whatever stands behind them
abbrev pub EndsItself : List ℕ → Type 0
EndsItself bytes = (other : List ℕ) → left_behind (bytes ++ other) ≡ other
