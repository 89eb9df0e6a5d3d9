use Rattle.std.proofs.Common.{◌≡◌, take}
use Rattle.sh_arith.specs.Variables.{pairs}
use Rattle.sh_arith.proofs.variables.Env.copy.Given as goal

abbrev pub invariant-loop-variable : goal.invariant-loop-variable
invariant-loop-variable l = pairs l.variables.items ≡ pairs (take l.variable-index l.variable-items)
