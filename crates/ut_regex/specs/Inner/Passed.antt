-- The lines of a text that are passed over.
use Rattle.std.specs.Prelude.{◌≡◌, ◌≤◌, ℕ, List, ◌++◌, Bool, true, length}
use Rattle.ps_lines.specs.Lines.{is_closed, lines}
use Rattle.ut_regex.specs.Having.{Lack}
use Rattle.ut_regex.specs.Tree.{Tree}

-- no line that ends before the place has the expression
abbrev pub IsPassed : Bool → Bool → Tree → List ℕ → ℕ → Type 0
IsPassed fold whole re text place =
    (before more : List ℕ) → text ≡ before ++ more → is_closed before ≡ true → length before ≤ place → Lack fold whole re (lines before)
