use Rattle.std.proofs.Common.{◌≡◌, [], map, drop, reverse}
use Rattle.sh_arith.specs.declared.syntax.Expected.TheVariants as expected
use Rattle.sh_arith.specs.Tokens.{meaning}
use Rattle.sh_arith.specs.Syntax.{accepts}
use Rattle.sh_arith.proofs.syntax.is_accepted.Given as goal

abbrev pub invariant-loop-token : goal.invariant-loop-token
invariant-loop-token l = accepts l.expected (reverse l.brackets.items) (map meaning (drop l.token-index l.tokens)) ≡ accepts expected.Anything [] (map meaning l.tokens)
