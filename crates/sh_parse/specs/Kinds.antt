-- What the bytes of a word allow it to be (XCU 2.4, 2.10.2 rules 1, 5 to 7), behind the removal of backslash-newlines (XCU 2.2.1). A
-- word that is quoted somewhere has a byte that no name has.
use Rattle.std.specs.Prelude.{ℕ, Bool, true, false, List, [], ◌∷◌, ◌==◌, ◌&&◌, if◌then◌else◌, map, codes}
use Rattle.std.specs.Str.{bytes_eq}
use Rattle.std.specs.declared.option.Option.{Option}
use Rattle.std.specs.declared.option.Option.TheVariants.{None, Some}
use Rattle.ps_lines.specs.Bytes.{is_name_start, is_name_byte}
use Rattle.sh_lex.specs.Texts.{fronts}
use Rattle.sh_lex.specs.declared.bytes.TheConstants.{EQUALS}
use Rattle.sh_parse.specs.declared.items.WordKind.{WordKind}
use Rattle.sh_parse.specs.declared.items.WordKind.TheVariants as word
use Rattle.sh_parse.specs.declared.items.Reserved.{Reserved}
use Rattle.sh_parse.specs.declared.items.Reserved.TheVariants as reserved

-- a word without backslash-newlines
unfoldable pub spelled : List ℕ → List ℕ
spelled word = map (λ front. front.0) (fronts word)

-- the reserved words (XCU 2.4)
unfoldable pub reserved_by : List ℕ → Option Reserved
reserved_by bytes =
    if bytes_eq bytes (codes "!") then Some reserved.Bang
    else if bytes_eq bytes (codes "{") then Some reserved.OpenBrace
    else if bytes_eq bytes (codes "}") then Some reserved.CloseBrace
    else if bytes_eq bytes (codes "if") then Some reserved.If
    else if bytes_eq bytes (codes "then") then Some reserved.Then
    else if bytes_eq bytes (codes "elif") then Some reserved.Elif
    else if bytes_eq bytes (codes "else") then Some reserved.Else
    else if bytes_eq bytes (codes "fi") then Some reserved.Fi
    else if bytes_eq bytes (codes "while") then Some reserved.While
    else if bytes_eq bytes (codes "until") then Some reserved.Until
    else if bytes_eq bytes (codes "do") then Some reserved.Do
    else if bytes_eq bytes (codes "done") then Some reserved.Done
    else if bytes_eq bytes (codes "for") then Some reserved.For
    else if bytes_eq bytes (codes "case") then Some reserved.Case
    else if bytes_eq bytes (codes "esac") then Some reserved.Esac
    else None

abbrev pub are_name_bytes : List ℕ → Bool
are_name_bytes [] = true
are_name_bytes (byte ∷ rest) = is_name_byte byte && are_name_bytes rest

-- a name (XBD 3.235)
abbrev pub is_name_text : List ℕ → Bool
is_name_text [] = false
is_name_text (first ∷ rest) = is_name_start first && are_name_bytes rest

-- the bytes of a name go on up to a `=`
abbrev pub goes_to_value : List ℕ → Bool
goes_to_value [] = false
goes_to_value (byte ∷ rest) = if byte == EQUALS then true else (is_name_byte byte && goes_to_value rest)

-- a name and a `=` begin the word
abbrev pub is_assign : List ℕ → Bool
is_assign [] = false
is_assign (first ∷ rest) = is_name_start first && goes_to_value rest

-- of a word that isn't reserved
unfoldable pub other_kind : List ℕ → WordKind
other_kind bytes =
    if bytes_eq bytes (codes "in") then word.In
    else if is_name_text bytes then word.Name
    else if is_assign bytes then word.Assign
    else word.Other

abbrev pub kind_by : Option Reserved → List ℕ → WordKind
kind_by None bytes = other_kind bytes
kind_by (Some name) bytes = word.Reserved name

abbrev pub kind_of : List ℕ → WordKind
kind_of bytes = kind_by (reserved_by bytes) bytes
