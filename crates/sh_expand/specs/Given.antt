-- What an expansion is given, besides the variables (XCU 2.5).
use Rattle.std.specs.Prelude.{ℕ, ◌==◌, ◌-◌, List, [], Option, Some, if◌then◌else◌}
use Rattle.std.specs.List.{slice_get}
use Rattle.std.specs.Option.{unwrap_or}
use Rattle.ps_lines.specs.Texts.{texts_of}
use Rattle.sh_expand.specs.declared.known.Known.{Known}

-- `$0`, the arguments, `$?`, and the texts of the command substitutions
pub record Given : Type 0 where
  pub zero : List ℕ
  pub arguments : List (List ℕ)
  pub status : ℕ
  pub substitutions : List (List ℕ)

abbrev pub given_of : Known → Given
given_of known = record { zero = known.zero.now; arguments = texts_of known.args.now; status = known.status; substitutions = texts_of known.subs.now }

-- `$0`, or an argument, counted from 1
abbrev pub argument : Given → ℕ → Option (List ℕ)
argument given place = if place == 0 then Some given.zero else slice_get given.arguments (place - 1)

-- the text of a command substitution, counted from 0
abbrev pub substituted : Given → ℕ → List ℕ
substituted given number = unwrap_or (slice_get given.substitutions number) []
