use Rattle.std.proofs.Common.{◌≡◌, length, map}
use Rattle.sh_eval.specs.Inner.Bodies.{assign_tree}
use Rattle.sh_eval.specs.Shells.{with_env}
use Rattle.sh_eval.specs.Simple.{restored}
use Rattle.sh_eval.proofs.expanding.restore.Given as goal

-- what is left to restore gives what all gives
abbrev pub invariant-loop-name : goal.invariant-loop-name
invariant-loop-name l = record {
  rest : restored (map assign_tree l.left) l.saved l.shell.variables ≡ restored (map assign_tree l.fn.assigns) l.saved l.fn.shell.variables;
  others : l.shell ≡ with_env l.shell.variables l.fn.shell;
}

abbrev pub decreases-loop-name : goal.decreases-loop-name
decreases-loop-name l = length l.left
