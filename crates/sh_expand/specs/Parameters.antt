-- Parameters (XCU 2.5.1, 2.5.2, 2.6.2), and what `$@` and `$*` make of the arguments.
use Rattle.std.specs.Prelude.{ℕ, Bool, true, false, not, List, [], ◌∷◌, ◌++◌, take, length, decimal, Option, Some, None, if◌then◌else◌}
use Rattle.std.specs.Option.{unwrap_or}
use Rattle.std.specs.FinMap as map
use Rattle.sh_tree.specs.declared.words.Param.{Param}
use Rattle.sh_tree.specs.declared.words.Param.TheVariants as param
use Rattle.sh_arith.specs.Variables.{Variables}
use Rattle.sh_expand.specs.declared.marks.Marked.{Marked}
use Rattle.sh_expand.specs.declared.marks.Marked.TheVariants.{FieldEnd}
use Rattle.sh_expand.specs.declared.parameters.Setting.{Setting}
use Rattle.sh_expand.specs.declared.parameters.Setting.TheVariants as setting
use Rattle.sh_expand.specs.Given.{Given, argument}
use Rattle.sh_expand.specs.Marks.{value}
use Rattle.sh_expand.specs.Separators.{ifs_of}

-- a parameter that is unset is empty
abbrev pub or_nothing : Option (List ℕ) → List ℕ
or_nothing text = unwrap_or text []

-- the byte that joins `$*`: the first of IFS, a space where it is unset, and none where it is empty
abbrev pub separator_of : Variables → List ℕ
separator_of variables = take 1 (ifs_of variables)

-- texts with a separator before each
abbrev pub joined_behind : List ℕ → List (List ℕ) → List ℕ
joined_behind separator [] = []
joined_behind separator (text ∷ rest) = (separator ++ text) ++ joined_behind separator rest

-- texts with a separator between them
abbrev pub joined : List ℕ → List (List ℕ) → List ℕ
joined separator [] = []
joined separator (text ∷ rest) = text ++ joined_behind separator rest

-- the text of a parameter, if it is set
abbrev pub parameter_text : Given → Variables → Param → Option (List ℕ)
parameter_text given variables (param.Name name) = map.get variables name
parameter_text given variables (param.Place place) = argument given place
parameter_text given variables param.At = Some (joined (32 ∷ []) given.arguments)
parameter_text given variables param.Star = Some (joined (separator_of variables) given.arguments)
parameter_text given variables param.Count = Some (decimal (length given.arguments))
parameter_text given variables param.Status = Some (decimal given.status)

-- the parameter counts as set: with the colon an empty one doesn't
abbrev pub is_usable : Bool → Option (List ℕ) → Bool
is_usable colon None = false
is_usable colon (Some []) = not colon
is_usable colon (Some (byte ∷ bytes)) = true

-- how a fault names a parameter
abbrev pub name_of : Param → List ℕ
name_of (param.Name name) = name
name_of (param.Place place) = decimal place
name_of param.At = 64 ∷ []
name_of param.Star = 42 ∷ []
name_of param.Count = 35 ∷ []
name_of param.Status = 63 ∷ []

-- arguments, each with the end of a field before it
abbrev pub behind_fields : Bool → List (List ℕ) → List Marked
behind_fields quoted [] = []
behind_fields quoted (text ∷ rest) = (FieldEnd ∷ value quoted text) ++ behind_fields quoted rest

-- arguments as fields
abbrev pub as_fields : Bool → List (List ℕ) → List Marked
as_fields quoted [] = []
as_fields quoted (text ∷ rest) = value quoted text ++ behind_fields quoted rest

-- where fields are made, `$@` gives one for each argument, and so does `$*` outside quotes
abbrev pub gives_fields : Param → Bool → Bool
gives_fields (param.Name name) quoted = false
gives_fields (param.Place place) quoted = false
gives_fields param.At quoted = true
gives_fields param.Star quoted = not quoted
gives_fields param.Count quoted = false
gives_fields param.Status quoted = false

abbrev pub makes_fields : Param → Bool → Setting → Bool
makes_fields what quoted setting.Outer = gives_fields what quoted
makes_fields what quoted setting.Inner = gives_fields what quoted
makes_fields what quoted setting.Joined = false

-- what a parameter gives; where nothing is split, `$@` is joined by spaces (own) and `$*` as in double quotes
abbrev pub plain_value : Given → Setting → Param → Bool → List ℕ → List Marked
plain_value given setting what quoted text =
    if makes_fields what quoted setting then as_fields quoted given.arguments else value quoted text

-- the variables with the parameter set to the text; only names are variables
abbrev pub assigned : Param → List ℕ → Variables → Variables
assigned (param.Name name) text variables = map.insert variables name text
assigned (param.Place place) text variables = variables
assigned param.At text variables = variables
assigned param.Star text variables = variables
assigned param.Count text variables = variables
assigned param.Status text variables = variables
