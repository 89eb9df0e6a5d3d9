-- Lines that a shell reads (XCU read). The code takes a line of what descriptor 0 reads, and then sets variables to its fields.
use Rattle.std.specs.Prelude.{◌≡◌, ℕ, List, [], ◌∷◌, Bool, Option, Some, IfSome, length}
use Rattle.std.specs.FinMap as map
use Rattle.std.specs.Option.{option_map}
use Rattle.ps_lines.specs.Lines.{has_newline}
use Rattle.sh_arith.specs.Variables.{Variables}
use Rattle.sh_expand.specs.Separators.{ifs_of}
use Rattle.ut_test.specs.Fields.{fields_read}
use Rattle.sh_eval.specs.declared.streams.From.{From}
use Rattle.sh_eval.specs.declared.streams.From.TheVariants as from
use Rattle.sh_eval.specs.Builtins.{line_in, behind_line}

-- what descriptor 0 still gives, where the standard input tells what it has
abbrev pub left_of : From → Option (List ℕ) → Option (List ℕ)
left_of from.Standard told = told
left_of (from.Kept text) told = Some text

-- behind the line, of a text that is kept
abbrev pub from_behind : From → From
from_behind from.Standard = from.Standard
from_behind (from.Kept text) = from.Kept (behind_line text)

-- and of the standard input
abbrev pub told_behind : From → Option (List ℕ) → Option (List ℕ)
told_behind from.Standard told = option_map behind_line told
told_behind (from.Kept text) told = told

-- the first line was taken
pub record TakesLine (from_old from_new : From) (left_old left_new : Option (List ℕ)) (line : List ℕ) (closed : Bool) : Type 0 where
  pub text : IfSome (left_of from_old left_old) (λ text. line ≡ line_in text)
  pub ended : IfSome (left_of from_old left_old) (λ text. closed ≡ has_newline text)
  pub kept : from_new ≡ from_behind from_old
  pub left : left_new ≡ told_behind from_old left_old

-- the fields of a line for these names
abbrev pub fields_of : Variables → List ℕ → List (List ℕ) → List (List ℕ)
fields_of variables line names = fields_read (ifs_of variables) line (length names)

-- the variables with each name set to the text at its place
abbrev pub all_set : List (List ℕ) → List (List ℕ) → Variables → Variables
all_set [] texts variables = variables
all_set (name ∷ names) [] variables = variables
all_set (name ∷ names) (text ∷ texts) variables = all_set names texts (map.insert variables name text)
