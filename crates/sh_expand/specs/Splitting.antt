-- Field splitting (XCU 2.6.5). Bytes that an expansion outside quotes gave separate fields where they are in IFS. White space of IFS
-- separates fields, and is dropped at the ends; each other byte of IFS ends a field, with the white space beside it. So does the end
-- of an argument of `$@` or `$*`, but for the field that would be empty.
use Rattle.std.specs.Prelude.{ℕ, ◌≤◌, length, ◌==◌, Bool, false, List, [], ◌∷◌, ◌≡◌, ◌++◌, map, if◌then◌else◌}
use Rattle.std.specs.List.{list_any}
use Rattle.std.specs.Global.{Vec}
use Rattle.ps_lines.specs.Bytes.{is_white_space}
use Rattle.sh_expand.specs.declared.marks.Marked.{Marked}
use Rattle.sh_expand.specs.declared.marks.Marked.TheVariants.{Written, Quoted, Loose, EmptyPart, FieldEnd}
use Rattle.sh_expand.specs.Marks.{is_pattern}
use Rattle.sh_expand.specs.declared.splitting.Class.{Class}
use Rattle.sh_expand.specs.declared.splitting.Class.TheVariants as class
use Rattle.sh_expand.specs.declared.splitting.Before.{Before}
use Rattle.sh_expand.specs.declared.splitting.Before.TheVariants as before
use Rattle.sh_expand.specs.declared.splitting.Act.{Act}
use Rattle.sh_expand.specs.declared.splitting.Act.TheVariants as act

-- what a byte is that an expansion outside quotes gave
abbrev pub class_of_byte : List ℕ → ℕ → Class
class_of_byte ifs byte =
    if list_any (λ one. one == byte) ifs then (if is_white_space byte then class.White else class.Ender) else class.Content

abbrev pub class_of : List ℕ → Marked → Class
class_of ifs (Written byte) = class.Content
class_of ifs (Quoted byte) = class.Content
class_of ifs (Loose byte) = class_of_byte ifs byte
class_of ifs EmptyPart = class.Content
class_of ifs FieldEnd = class.ArgumentEnd

-- what is done at a mark, by what stands before it: a byte that ends fields, and stands behind white space that ended one, ends no
-- other; where no field has begun it ends an empty one
abbrev pub act_at : Class → Before → Act
act_at class.Content stands = act.Keep
act_at class.White before.Start = act.Skip
act_at class.White before.Field = act.End
act_at class.White before.White = act.Skip
act_at class.Ender before.Start = act.End
act_at class.Ender before.Field = act.End
act_at class.Ender before.White = act.Skip
act_at class.ArgumentEnd before.Start = act.Skip
act_at class.ArgumentEnd before.Field = act.End
act_at class.ArgumentEnd before.White = act.Skip

-- what stands before the next mark
abbrev pub after : Class → Before → Before
after class.Content stands = before.Field
after class.White before.Start = before.Start
after class.White before.Field = before.White
after class.White before.White = before.White
after class.Ender stands = before.Start
after class.ArgumentEnd stands = before.Start

-- the mark in front of the first field
abbrev pub onto : Marked → List (List Marked) → List (List Marked)
onto mark [] = (mark ∷ []) ∷ []
onto mark (field ∷ fields) = (mark ∷ field) ∷ fields

-- a mark, and the fields that follow it
abbrev pub at_mark : Act → Marked → List (List Marked) → List (List Marked)
at_mark act.Keep mark fields = onto mark fields
at_mark act.Skip mark fields = fields
at_mark act.End mark fields = [] ∷ fields

-- where a text ends, the field that has begun does
abbrev pub at_end : Before → List (List Marked)
at_end before.Start = []
at_end before.Field = [] ∷ []
at_end before.White = []

-- the fields of marks, by what stands before them; the first goes on with the field that has begun
abbrev pub split_behind : List ℕ → Before → List Marked → List (List Marked)
split_behind ifs stands [] = at_end stands
split_behind ifs stands (mark ∷ rest) =
    at_mark (act_at (class_of ifs mark) stands) mark (split_behind ifs (after (class_of ifs mark) stands) rest)

-- the fields of marked bytes, by the bytes of IFS
abbrev pub split : List ℕ → List Marked → List (List Marked)
split ifs marks = split_behind ifs before.Start marks

-- the fields, as lists
abbrev pub fields_of : List (Vec Marked) → List (List Marked)
fields_of = map (λ field. field.items)

-- these are the fields, or the first of them, where there are more than this many
pub record AreUpTo (most : ℕ) (all fields : List (List Marked)) : Type 0 where
  pub left_out : List (List Marked)
  pub cut : fields ++ left_out ≡ all
  pub whole : length fields ≤ most → left_out ≡ []

-- between the parts of the code: marks in front of the first field
abbrev pub spliced : List Marked → List (List Marked) → List (List Marked)
spliced [] fields = fields
spliced (mark ∷ marks) fields = onto mark (spliced marks fields)

-- the mark stays in its field, and is an unquoted pattern byte
abbrev pub keeps_pattern : Act → Marked → Bool
keeps_pattern act.Keep mark = is_pattern mark
keeps_pattern act.Skip mark = false
keeps_pattern act.End mark = false

-- the field that has begun, after a mark
abbrev pub held : Act → Marked → List Marked → List Marked
held act.Keep mark field = field ++ mark ∷ []
held act.Skip mark field = field
held act.End mark field = []

-- no marks are held but those of a field that has begun
abbrev pub IsHeld : Before → List Marked → Type 0
IsHeld before.Start field = field ≡ []
IsHeld before.Field field = Unit {0}
IsHeld before.White field = field ≡ []
