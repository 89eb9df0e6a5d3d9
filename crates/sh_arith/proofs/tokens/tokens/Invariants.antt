use Rattle.std.proofs.Common.{◌≡◌, List, ◌++◌, map, length}
use Rattle.sh_arith.specs.Tokens.{Token, meaning, past_blanks, Lexes}
use Rattle.sh_arith.proofs.tokens.tokens.Given as goal

abbrev pub invariant-loop-rest : goal.invariant-loop-rest
invariant-loop-rest l = record {
  read : (others : List Token) → Lexes l.rest others → Lexes l.fn.text (map meaning l.found.items ++ others);
  back : (list : List Token) → Lexes l.fn.text list → (others : List Token) × Lexes l.rest others;
  blank : past_blanks l.rest ≡ l.rest;
}

abbrev pub decreases-loop-rest : goal.decreases-loop-rest
decreases-loop-rest l = length l.rest
