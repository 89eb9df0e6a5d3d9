-- What the patterns of grep select (XCU grep; XBD 9). The code reads them into one expression, and seeks that.
use Rattle.std.specs.Prelude.{ℕ, ◌≡◌, ◌⊎◌, ◌∷◌, ◌++◌, List, [], Bool, true, false, Option, Some, None, codes, ◌||◌, if◌then◌else◌}
use Rattle.std.proofs.Common.{inl, inr}
use Rattle.std.specs.List.{list_any}
use Rattle.ps_lines.specs.Lines.{is_empty, lines}
use Rattle.ps_lines.specs.declared.newlines.TheConstants.{NEWLINE}
use Rattle.ut_args.specs.Inputs.{is_standard}
use Rattle.ut_args.specs.Utilities.{has_at_most_one}
use Rattle.ut_args.specs.declared.commands.GrepArgs.{GrepArgs}
use Rattle.ut_args.specs.declared.commands.Report.{Report}
use Rattle.ut_args.specs.declared.commands.Report.TheVariants as report
use Rattle.ut_args.specs.declared.commands.Syntax.{Syntax}
use Rattle.ut_args.specs.declared.commands.Syntax.TheVariants as syntax
use Rattle.ut_regex.specs.declared.fault.ReFault.{ReFault}
use Rattle.ut_regex.specs.declared.fault.ReFault.TheVariants.{NotARegex, BackReference, RepeatTooLarge, TooLarge, Memory}
use Rattle.ut_regex.specs.Answers.{is_had}
use Rattle.ut_regex.specs.Reading.{Faults, IsRead, Reads, Refuses}
use Rattle.ut_regex.specs.Several.{in_order}
use Rattle.ut_regex.specs.Sizes.{IsSmall}
use Rattle.ut_regex.specs.Tree.{Tree}
use Rattle.ut_regex.proofs.TotalLemmas.{reading}
use Rattle.ut_grep.specs.Output.{due_by, picked}

-- the tree of a pattern, where it is an expression: every text is one, or has a fault
abbrev pub tree_read : (basic : Bool) (pattern : List ℕ) → IsRead basic pattern ⊎ ((fault : ReFault) × Faults basic pattern fault) → Option Tree
tree_read basic pattern (inl read) = Some read.0
tree_read basic pattern (inr faulty) = None

abbrev pub tree_of : Syntax → List ℕ → Option Tree
tree_of syntax.Basic pattern = tree_read true pattern (reading true pattern)
tree_of syntax.Extended pattern = tree_read false pattern (reading false pattern)
tree_of syntax.Fixed pattern = Some (in_order pattern)

-- a line has a pattern. With -i letters are compared in both cases, and with -x the pattern is the whole line
abbrev pub is_had_by : Bool → Bool → Option Tree → List ℕ → Bool
is_had_by fold whole None line = false
is_had_by fold whole (Some re) line = is_had fold whole re line

abbrev pub is_found : GrepArgs → List ℕ → Bool
is_found args line = list_any (λ pattern. is_had_by args.ignores_case args.whole_lines (tree_of args.syntax pattern) line) args.patterns

-- a line is selected: some pattern is found in it, or with -v none
abbrev pub is_selected : GrepArgs → List ℕ → Bool
is_selected args line = picked args.inverts (is_found args line)

-- the name of an input, and what it stands before: lines and counts where there are two operands or more
abbrev pub name_of : List ℕ → List ℕ
name_of label = if is_empty label || is_standard label then codes "(standard input)" else label

abbrev pub head_by : Report → Bool → List ℕ → List ℕ
head_by report.Lines alone name = if alone then [] else name ++ 58 ∷ []
head_by report.Count alone name = if alone then [] else name ++ 58 ∷ []
head_by report.Path alone name = name ++ NEWLINE ∷ []
head_by report.Nothing alone name = []

abbrev pub head_of : GrepArgs → List ℕ → List ℕ
head_of args label = head_by args.report (has_at_most_one args.operands) (name_of label)

-- the number of the first line, where lines are numbered
abbrev pub first_number : GrepArgs → Option ℕ
first_number args = if args.numbers then Some 1 else None

-- what is written for an input that an operand names, and whether a line of it is selected
abbrev pub written : GrepArgs → List ℕ → List ℕ → List ℕ
written args label text = due_by args.report (is_selected args) (head_of args label) (first_number args) 0 false (lines text)

abbrev pub selects : GrepArgs → List ℕ → Bool
selects args text = list_any (is_selected args) (lines text)

-- a pattern is read as this expression
abbrev pub IsPattern : Syntax → List ℕ → Tree → Type 0
IsPattern syntax.Basic pattern re = Reads true pattern re × IsSmall re
IsPattern syntax.Extended pattern re = Reads false pattern re × IsSmall re
IsPattern syntax.Fixed pattern re = re ≡ in_order pattern

-- why it isn't. Bytes as they stand always are, unless memory is wanted
abbrev pub IsWantOfMemory : ReFault → Type 0
IsWantOfMemory NotARegex = ⊥
IsWantOfMemory BackReference = ⊥
IsWantOfMemory RepeatTooLarge = ⊥
IsWantOfMemory TooLarge = ⊥
IsWantOfMemory Memory = Unit {0}

abbrev pub RefusesPattern : Syntax → List ℕ → ReFault → Type 0
RefusesPattern syntax.Basic pattern fault = Refuses true pattern fault
RefusesPattern syntax.Extended pattern fault = Refuses false pattern fault
RefusesPattern syntax.Fixed pattern fault = IsWantOfMemory fault

-- all patterns are read, as these expressions
abbrev pub ArePatterns : Syntax → List (List ℕ) → List Tree → Type 0
ArePatterns form [] [] = Unit {0}
ArePatterns form [] (re ∷ trees) = ⊥
ArePatterns form (pattern ∷ patterns) [] = ⊥
ArePatterns form (pattern ∷ patterns) (re ∷ trees) = IsPattern form pattern re × ArePatterns form patterns trees

abbrev pub AreRead : GrepArgs → Type 0
AreRead args = (trees : List Tree) × ArePatterns args.syntax args.patterns trees

-- the first pattern that isn't read isn't for this fault, and those before it are
pub record RefusesFirst (form : Syntax) (patterns : List (List ℕ)) (fault : ReFault) : Type 0 where
  pub before : List (List ℕ)
  pub pattern : List ℕ
  pub behind : List (List ℕ)
  pub whole : patterns ≡ before ++ pattern ∷ behind
  pub trees : List Tree
  pub read : ArePatterns form before trees
  pub refused : RefusesPattern form pattern fault
