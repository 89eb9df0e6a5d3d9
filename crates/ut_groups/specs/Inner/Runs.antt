-- Runs of equal lines. A text that begins with a run is the same as itself one line on, as far as the run goes.
use Rattle.std.specs.Prelude.{◌≡◌, ℕ, ◌<◌, ◌==◌, zero, suc, List, [], ◌∷◌, ◌++◌, true, false, if◌then◌else◌}
use Rattle.ps_lines.specs.Lines.{CutsLine, is_closed, lines}
use Rattle.ut_groups.specs.declared.forms.Form.TheVariants as form
use Rattle.ut_groups.specs.declared.grouping.Grouping.{Grouping}
use Rattle.ut_groups.specs.declared.skips.Skip.{Skip}
use Rattle.ut_groups.specs.Groups.{is_same, line_of}

-- how many bytes two texts begin with in common
abbrev pub common : List ℕ → List ℕ → ℕ
common [] other = 0
common (byte ∷ rest) [] = 0
common (byte ∷ rest) (first ∷ others) = if byte == first then suc (common rest others) else 0

-- so many copies of a text, one behind the other
abbrev pub copies : ℕ → List ℕ → List ℕ
copies zero text = []
copies (suc count) text = text ++ copies count text

-- the text begins with a run of so many equal lines: what stands behind the first of them, and behind the last, where another line begins
pub record BeginsWithRun (text line : List ℕ) (count : ℕ) (behind_first behind : List ℕ) : Type 0 where
  pub cut : CutsLine text line behind_first
  pub some : 0 < count
  pub whole : text ≡ copies count (line_of line) ++ behind
  pub closed : is_closed behind ≡ true
  pub ends : (more : List ℕ) → behind ≡ line_of line ++ more → ⊥

-- the first line of the text, if there is one, isn't the same as this one
abbrev pub BeginsOther : Skip → List ℕ → List ℕ → Type 0
BeginsOther skip first text = (line : List ℕ) (others : List (List ℕ)) → lines text ≡ line ∷ others → is_same skip first line ≡ false

-- lines are groups of one, and the same where all of their bytes are
abbrev pub IsExact : Grouping → Type 0
IsExact grouping = (grouping.form ≡ form.Plain) × (grouping.skip.fields ≡ 0) × (grouping.skip.bytes ≡ 0)
