-- The tokens so far stand before those of what is left.
use Rattle.std.proofs.Common.{◌≡◌, ℕ, List, Result, length}
use Rattle.sh_lex.specs.Lexes.{Tokens}
use Rattle.sh_lex.proofs.Scripts.{after_tokens}
use Rattle.sh_lex.specs.declared.parts.Fault.{Fault}
use Rattle.sh_lex.specs.declared.tokens.Token.{Token}
use Rattle.sh_lex.proofs.lexing.tokens_of.Given as goal

abbrev pub invariant-loop-tokens : goal.invariant-loop-tokens
invariant-loop-tokens l =
    (total : ℕ) (end : Result (List Token) Fault) → total ≡ length l.fn.text → Tokens total l.rest end
    → Tokens total l.fn.text (after_tokens l.tokens.items end)

abbrev pub decreases-loop-tokens : goal.decreases-loop-tokens
decreases-loop-tokens l = length l.rest
