use Rattle.std.proofs.Common.{arith}
use Rattle.std.proofs.lemmas.List.{nil_from_length}
use Rattle.sh_eval.proofs.UtilitySteps.{told-none, told-some}
use Rattle.sh_eval.proofs.utilities.tell_some.Goals as goal

pub returns-in_default-clause-evaluates : goal.returns-in_default-clause-evaluates
returns-in_default-clause-evaluates g c = λ shell drawn input. told-some c.args.lines.now _ _ _ (let some = c.in_default.len_at_least in omega (arith, some)) (c.tell.ensures.evaluates shell drawn input)

pub returns-clause-evaluates : goal.returns-clause-evaluates
returns-clause-evaluates g c = λ shell drawn input. told-none c.args.lines.now _ (nil_from_length c.args.lines.now (let below = c.in-empty.len_below in omega (arith, below)))
