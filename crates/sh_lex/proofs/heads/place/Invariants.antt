use Rattle.std.proofs.Common.{◌≡◌, ℕ, List, ◌∷◌, ◌++◌, length}
use Rattle.std.specs.Char.{is_ascii_digit}
use Rattle.sh_lex.specs.Texts.{run, behind_run}
use Rattle.sh_lex.specs.Heads.{place_value}
use Rattle.sh_lex.proofs.heads.place.Given as goal

-- the digits so far, and those to come
abbrev pub invariant-loop-byte : goal.invariant-loop-byte
invariant-loop-byte l = record {
  value : (digits : List ℕ) × ((l.value ≡ place_value digits) × (digits ++ run is_ascii_digit l.rest ≡ l.first ∷ run is_ascii_digit l.text));
  behind : behind_run is_ascii_digit l.rest ≡ behind_run is_ascii_digit l.text;
}

abbrev pub decreases-loop-byte : goal.decreases-loop-byte
decreases-loop-byte l = length l.rest
