-- The newlines at the end of a text (XCU 2.6.3).
use Rattle.std.specs.Prelude.{ℕ, List, [], ◌∷◌, ◌==◌, if◌then◌else◌}
use Rattle.std.specs.List.{list_all}
use Rattle.ps_lines.specs.declared.newlines.TheConstants.{NEWLINE}

-- the text without the newlines at its end
abbrev pub without_newlines : List ℕ → List ℕ
without_newlines [] = []
without_newlines (byte ∷ rest) = if list_all (λ next. next == NEWLINE) (byte ∷ rest) then [] else byte ∷ without_newlines rest
