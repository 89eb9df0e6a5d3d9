use Rattle.std.proofs.Common.{sym, ◌∙◌}
use Rattle.sh_eval.proofs.BuiltinLemmas.{shifted, shifted-past}
use Rattle.sh_eval.proofs.builtins.shift.Goals as goal

pub returns-then-not-has_arguments : goal.returns-then-not-has_arguments
returns-then-not-has_arguments g c = λ drawn input. shifted-past c.args.name.now c.args.count _ _ _ (sym c.has_arguments.ensures ∙ c.if-not-has_arguments.true) (c.misuse.ensures drawn input)

pub returns : goal.returns
returns g c = λ drawn input. shifted c.args.name.now c.args.count _ _ _ (sym c.has_arguments.ensures ∙ c.if-not-has_arguments.false) (c.drop_arguments.ensures _ _ _ _)
