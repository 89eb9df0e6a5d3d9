use Rattle.std.proofs.Common.{drop, ◌≡◌}
use Rattle.ps_lines.specs.Texts.{texts_of}
use Rattle.sh_eval.specs.Builtins.{unset_all}
use Rattle.sh_eval.proofs.builtins.unset_all.Given as goal

-- what comes of the names that are left comes of all
abbrev pub invariant-loop-name : goal.invariant-loop-name
invariant-loop-name l = unset_all (texts_of l.fn.names) l.fn.variables ≡ unset_all (texts_of (drop l.name-index l.fn.names)) l.variables
