-- Groups of lines (XCU uniq): the longest runs of neighbours that are equal behind what is skipped of each.
use Rattle.std.specs.Prelude.{ℕ, ◌+◌, ◌==◌, nat_lt, List, [], ◌∷◌, ◌++◌, drop, decimal, Bool, None, if◌then◌else◌}
use Rattle.std.specs.Str.{bytes_eq}
use Rattle.ps_lines.specs.declared.newlines.TheConstants.{NEWLINE}
use Rattle.ut_args.specs.declared.commands.Groups.{Groups}
use Rattle.ut_args.specs.declared.commands.Groups.TheVariants as groups
use Rattle.ut_fields.specs.Fields.{behind_fields}
use Rattle.ut_groups.specs.declared.counting.TheConstants.{SPACE}
use Rattle.ut_groups.specs.declared.skips.Skip.{Skip}
use Rattle.ut_groups.specs.declared.forms.Form.{Form}
use Rattle.ut_groups.specs.declared.forms.Form.TheVariants as form
use Rattle.ut_groups.specs.Counting.{saturated}
use Rattle.ut_groups.specs.Columns.{behind_number, number_before}

-- what a comparison sees of a line: a skipped field is blanks and then bytes that are no blanks, as in sort without -t
abbrev pub compared : Skip → List ℕ → List ℕ
compared skip line = drop skip.bytes (behind_fields None skip.fields line)

abbrev pub is_same : Skip → List ℕ → List ℕ → Bool
is_same skip one other = bytes_eq (compared skip one) (compared skip other)

-- a group: its first line, and how many lines it has
pub record Group : Type 0 where
  pub first : List ℕ
  pub count : ℕ

-- a group before others: it is one with the next where their first lines are the same
abbrev pub before_groups : Skip → Group → List Group → List Group
before_groups skip group [] = group ∷ []
before_groups skip group (next ∷ others) =
    if is_same skip group.first next.first then record { first = group.first; count = group.count + next.count } ∷ others
    else group ∷ next ∷ others

-- the longest runs of neighbours that are the same
abbrev pub grouped : Skip → List Group → List Group
grouped skip [] = []
grouped skip (group ∷ others) = before_groups skip group (grouped skip others)

-- the group that a line is: one of this line alone, or the one whose count stands before it
abbrev pub group_of : Form → List ℕ → Group
group_of form.Plain line = record { first = line; count = 1 }
group_of form.Counted line = record { first = behind_number line; count = number_before line }

-- what is written for a group
abbrev pub line_of : List ℕ → List ℕ
line_of line = line ++ NEWLINE ∷ []

abbrev pub group_text : Groups → Group → List ℕ
group_text groups.All group = line_of group.first
group_text groups.Counted group = decimal (saturated group.count) ++ SPACE ∷ line_of group.first
group_text groups.Repeated group = if nat_lt 1 group.count then line_of group.first else []
group_text groups.Single group = if group.count == 1 then line_of group.first else []
