use Rattle.std.proofs.Common.{drop, ◌≡◌, ◌++◌}
use Rattle.sh_eval.specs.Redirections.{held_by}
use Rattle.sh_eval.proofs.busy.hold.Given as goal

-- the paths that are held, and those of the uses that are left, are those of all
abbrev pub invariant-loop-used : goal.invariant-loop-used
invariant-loop-used l = l.held ++ held_by (drop l.used-index l.fn.uses) ≡ l.fn.held ++ held_by l.fn.uses
