-- The classes of bytes that a run is made of.
use Rattle.std.specs.Prelude.{ℕ, Bool}
use Rattle.ps_lines.specs.Bytes.{is_name_byte}
use Rattle.std.specs.Char.{is_ascii_digit}
use Rattle.sh_lex.specs.Bytes.{is_blank}
use Rattle.sh_lex.specs.declared.runs.Class.{Class}
use Rattle.sh_lex.specs.declared.runs.Class.TheVariants as class

abbrev pub has : Class → ℕ → Bool
has class.Blank = is_blank
has class.Digit = is_ascii_digit
has class.Name = is_name_byte
