-- What a `$` begins (XCU 2.6): a parameter, `${ }`, `$( )`, `$(( ))`, or nothing, and then it is ordinary.
-- `rest` is what is left behind the `$`, `left` the number of bytes left at the `$`, and `outer` the construct that it stands in.
use Rattle.std.specs.Prelude.{ℕ, Bool, true, List, [], ◌∷◌, ◌+◌, ◌==◌, nat_lt, if◌then◌else◌}
use Rattle.std.specs.declared.option.Option.TheVariants.{Some}
use Rattle.ps_lines.specs.Bytes.{is_name_start, is_name_byte}
use Rattle.sh_lex.specs.Bytes.{is_parameter}
use Rattle.sh_lex.specs.Texts.{unspliced}
use Rattle.sh_lex.specs.Acts.{Act, goes, enters, ends, offends}
use Rattle.sh_lex.specs.declared.bytes.TheConstants.{DOLLAR, BANG, DASH, OPEN_BRACE, OPEN}
use Rattle.sh_lex.specs.declared.parts.TheConstants.{MAX_LEVELS}
use Rattle.sh_lex.specs.declared.parts.Nest.{Nest}
use Rattle.sh_lex.specs.declared.parts.Construct.{Construct}
use Rattle.sh_lex.specs.declared.parts.Construct.TheVariants as part
use Rattle.sh_lex.specs.declared.parts.Spot.TheVariants as spot
use Rattle.sh_lex.specs.declared.parts.Fault.TheVariants as fault
use Rattle.sh_lex.specs.declared.parts.Spelling.TheVariants as spelling
use Rattle.sh_lex.specs.declared.dollars.Introduced.{Introduced}
use Rattle.sh_lex.specs.declared.dollars.Introduced.TheVariants as introduced

-- one level deeper
abbrev pub deeper : Nest → Nest
deeper nest = record nest { levels = nest.levels + 1 }

-- one level deeper, and inside a `${ }`
abbrev pub inside_braces : Nest → Nest
inside_braces nest = record { levels = nest.levels + 1; in_braces = true }

-- a level opens, and the 65th is refused (own)
abbrev pub opening : Nest → ℕ → Construct → Construct → List ℕ → Act
opening nest left inner outer rest =
    if nat_lt nest.levels MAX_LEVELS then enters inner outer rest else offends (fault.TooDeep left)

-- `$(` begins a command substitution (XCU 2.6.3); inside `${ }` it isn't in the profile
abbrev pub substitution : Nest → ℕ → Construct → List ℕ → Act
substitution nest left outer rest =
    if nest.in_braces then offends (fault.Spelled spelling.Substitution left)
    else opening nest left (part.Commands (deeper nest) (Some left) spot.Between) outer rest

-- `$((` always begins an arithmetic expansion (XCU 2.6.4; always: own); `inner` is what is left behind the first `(`
abbrev pub parenthesis : Nest → ℕ → Construct → List ℕ → List ℕ → Act
parenthesis nest left outer inner [] = substitution nest left outer inner
parenthesis nest left outer inner (byte ∷ rest) =
    if byte == OPEN then opening nest left (part.Arithmetic (deeper nest) left) outer rest
    else substitution nest left outer inner

-- what a `$` introduces (XCU 2.6), by the byte behind it
unfoldable pub introduced_by : ℕ → Introduced
introduced_by byte =
    if byte == DOLLAR then introduced.OutOfProfile spelling.DollarDollar
    else if byte == BANG then introduced.OutOfProfile spelling.DollarBang
    else if byte == DASH then introduced.OutOfProfile spelling.DollarDash
    else if byte == OPEN_BRACE then introduced.Braces
    else if byte == OPEN then introduced.Parenthesis
    else if is_name_start byte then introduced.Name
    else if is_parameter byte then introduced.Special
    else introduced.Nothing

-- what that does to the construct: `rest` is what is left behind the byte, `text` behind the `$`
abbrev pub dollar_by : Introduced → Nest → Bool → ℕ → Construct → List ℕ → List ℕ → Act
dollar_by (introduced.OutOfProfile spelling) nest quoted left outer text rest = offends (fault.Spelled spelling left)
dollar_by introduced.Braces nest quoted left outer text rest =
    opening nest left (part.BraceHead (inside_braces nest) left quoted) outer rest
dollar_by introduced.Parenthesis nest quoted left outer text rest = parenthesis nest left outer rest (unspliced rest)
dollar_by introduced.Name nest quoted left outer text rest = enters part.Name outer rest
dollar_by introduced.Special nest quoted left outer text rest = goes outer rest
dollar_by introduced.Nothing nest quoted left outer text rest = goes outer text

abbrev pub dollar_at : Nest → Bool → ℕ → Construct → List ℕ → List ℕ → Act
dollar_at nest quoted left outer text [] = goes outer text
dollar_at nest quoted left outer text (byte ∷ rest) = dollar_by (introduced_by byte) nest quoted left outer text rest

-- `quoted` says whether the `$` stands in double quotes
abbrev pub after_dollar : Nest → Bool → ℕ → Construct → List ℕ → Act
after_dollar nest quoted left outer text = dollar_at nest quoted left outer text (unspliced text)

-- the name of a `$name` is the longest (XCU 2.6.2)
abbrev pub name_at : List ℕ → List ℕ → Act
name_at text [] = ends text
name_at text (byte ∷ rest) = if is_name_byte byte then goes part.Name rest else ends text

abbrev pub in_name : List ℕ → Act
in_name text = name_at text (unspliced text)
